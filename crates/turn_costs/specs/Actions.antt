-- What a turn does that costs, and what it costs.
-- Source: this project.
use Rattle.std.specs.Prelude.{ℕ, ◌+◌, ◌*◌, ◌≤◌, ◌||◌, Bool, nat_lt}
use Rattle.turn_costs.specs.declared.actions.Actions.{Actions}
use Rattle.turn_costs.specs.declared.costs.Costs.{Costs}

-- nothing
abbrev pub no_actions : Actions
no_actions = record { misses = 0; upgrades = 0; lines = 0; write_backs = 0; begins = 0; restarts = 0; commits = 0 }

-- each is a message on the bus
abbrev pub messages_of : Actions → ℕ
messages_of a = a.misses + a.upgrades + a.lines + a.write_backs

-- the turn can't begin before the bus is free; what is written back alone may wait
abbrev pub needs_bus : Actions → Bool
needs_bus a = nat_lt 0 a.misses || nat_lt 0 a.upgrades || nat_lt 0 a.lines

-- the turn commits or publishes, as one at a time does
abbrev pub come_in_order : Actions → Bool
come_in_order a = nat_lt 0 a.commits || nat_lt 0 a.lines

-- the steps of accesses
abbrev pub memory_steps : Costs → Actions → ℕ
memory_steps costs a = a.misses * costs.miss + a.upgrades * costs.upgrade

-- the steps of what speculation has beside them
abbrev pub handling_steps : Costs → Actions → ℕ
handling_steps costs a = a.lines * costs.line + a.begins * costs.begin + a.restarts * costs.restart + a.commits * costs.commit

-- no more than a turn does
pub record AreFew (a : Actions) : Type 0 where
  pub misses : a.misses ≤ 1
  pub upgrades : a.upgrades ≤ 1
  pub lines : a.lines ≤ 64
  pub write_backs : a.write_backs ≤ 2
  pub begins : a.begins ≤ 1
  pub restarts : a.restarts ≤ 1
  pub commits : a.commits ≤ 1
