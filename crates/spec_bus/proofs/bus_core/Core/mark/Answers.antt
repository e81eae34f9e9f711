use Rattle.std.proofs.Common.{refl, ap}
use Rattle.cache_lines.specs.Lines.{Contents}
use Rattle.cache_lines.specs.Protocol.{copy_at}
use Rattle.cache_lines.proofs.Ways.{way_at-stands}
use Rattle.spec_bus.proofs.CoreCopies.{same_state, marked_found, changed_absent}
use Rattle.spec_bus.proofs.bus_core.Core.mark.Goals as goal

pub returns-in-Some : goal.returns-in-Some
returns-in-Some c =
    rw c.requires.silent
    (same_state _ _ _ _ _ _ _ _ _ _ _ _ (ap (λ (cache : Contents). cache.line_length) c.mark.ensures.exact) (ap (λ (cache : Contents). cache.geometry) c.mark.ensures.exact)
    (marked_found c.args.self.now.cache c.mark.new.self c.args.addr c.in-Some.way c.args.next c.in-Some.ensures.found c.mark.ensures.copies) c.mark.ensures.ways refl refl)

pub returns-in_default : goal.returns-in_default
returns-in_default c =
    rw c.requires.silent
    (same_state _ _ _ _ _ _ _ _ _ _ _ _ refl refl
    (changed_absent c.args.self.now.cache c.args.addr c.args.next (copy_at c.args.self.now.cache c.args.addr).cell c.in_default.ensures.absent c.requires.held) (way_at-stands c.args.self.now.cache) refl refl)
