use Rattle.std.proofs.Common.{refl, ap}
use Rattle.cache_lines.specs.Lines.{Contents}
use Rattle.spec_bus.proofs.CoreCopies.{same_state, filled_absent, way_filled}
use Rattle.spec_bus.proofs.bus_core.Core.fill.Goals as goal

pub returns : goal.returns
returns c =
    rw (c.enter_if.ensures.cache, c.enter_if.ensures.attempt, c.enter_if.ensures.orb)
    (same_state _ _ _ _ _ _ _ _ _ _ _ _ (ap (λ (cache : Contents). cache.line_length) c.fill.ensures.exact) (ap (λ (cache : Contents). cache.geometry) c.fill.ensures.exact)
    (filled_absent c.args.self.now.cache c.fill.new.self c.args.addr c.args.way c.args.next c.args.cells c.requires.valid c.fill.ensures.copies)
    (way_filled c.args.self.now.cache c.fill.new.self c.args.addr c.args.way c.args.next c.args.cells c.requires.valid c.fill.ensures.ways) refl refl)
