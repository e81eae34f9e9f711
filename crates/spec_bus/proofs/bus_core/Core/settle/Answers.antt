use Rattle.std.proofs.Common.{ap}
use Rattle.cache_lines.specs.Lines.{Contents}
use Rattle.spec_bus.proofs.CoreCopies.{same_state}
use Rattle.spec_bus.proofs.bus_core.Core.settle.Goals as goal

pub returns : goal.returns
returns c =
    same_state _ _ _ _ _ _ _ _ _ _ _ _ (ap (λ (cache : Contents). cache.line_length) c.settle_all.ensures.exact) (ap (λ (cache : Contents). cache.geometry) c.settle_all.ensures.exact)
    c.settle_all.ensures.copies c.settle_all.ensures.ways c.clear.ensures c.straightened-self.ensures
