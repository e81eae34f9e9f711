use Rattle.turn_costs.proofs.SamePrices.{prices_fixed, waits_fixed}
use Rattle.turn_costs.proofs.bus.CachedBusPricedStore.prices_are_fixed.Goals as goal

pub returns-clause-prices : goal.returns-clause-prices
returns-clause-prices c = prices_fixed

pub returns-clause-waits : goal.returns-clause-waits
returns-clause-waits c = waits_fixed
