-- How many steps actions cost.
-- Source: this project.
use Rattle.std.specs.Prelude.{ℕ}
use Rattle.turn_costs.specs.declared.costs.Costs.{Costs}

-- each action costs as much, and no message holds the bus
abbrev pub bus_costs : ℕ → Costs
bus_costs each = record { miss = each; upgrade = each; begin = each; restart = each; commit = each; line = each; hold = 0 }
