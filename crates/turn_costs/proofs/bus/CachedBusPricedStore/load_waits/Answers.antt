use Rattle.std.proofs.Common.{ap, ◌∙◌, is_some}
use Rattle.turn_costs.proofs.bus.CachedBusPricedStore.load_waits.Goals as goal

pub returns : goal.returns
returns c = c.is_some.ensures ∙ ap is_some (c.load_wait.ensures c.args._width)
