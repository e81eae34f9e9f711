use Rattle.std.proofs.Common.{refl, ap}
use Rattle.cache_lines.specs.Lines.{Contents}
use Rattle.spec_bus.proofs.CoreCopies.{same_state}
use Rattle.spec_bus.proofs.bus_core.Core.drop_attempt.Goals as goal

pub returns : goal.returns
returns c =
    same_state _ _ _ _ _ _ _ _ _ _ _ _ (ap (λ (cache : Contents). cache.line_length) c.roll_back_all.ensures.exact) (ap (λ (cache : Contents). cache.geometry) c.roll_back_all.ensures.exact)
    c.roll_back_all.ensures.copies c.roll_back_all.ensures.ways c.clear.ensures refl
