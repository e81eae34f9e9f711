use Rattle.std.proofs.Common.{refl, ap}
use Rattle.cache_lines.specs.Lines.{Contents}
use Rattle.spec_bus.proofs.CoreCopies.{same_state, written_found}
use Rattle.spec_bus.proofs.bus_core.Core.write.Goals as goal

pub returns-in-Some : goal.returns-in-Some
returns-in-Some c =
    same_state _ _ _ _ _ _ _ _ _ _ _ _ (ap (λ (cache : Contents). cache.line_length) c.write_bytes.ensures.exact) (ap (λ (cache : Contents). cache.geometry) c.write_bytes.ensures.exact)
    (written_found c.args.self.now.cache c.write_bytes.new.self c.args.addr c.in-Some.way c.args.offset c.args.width c.args.value c.in-Some.ensures.found c.write_bytes.ensures.copies) c.write_bytes.ensures.ways refl refl
