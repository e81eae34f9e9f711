-- What a turn costs, and when it begins.
-- Source: this project.
use Rattle.std.specs.Prelude.{ℕ, ◌+◌, ◌*◌, ◌≤◌, nat_le, ◌==◌, ◌||◌, Bool, true, false, Option, Some, None, if◌then◌else◌}
use Rattle.homefree.specs.declared.answer.Answer.{Answer}
use Rattle.homefree.specs.declared.answer.Answer.TheVariants.{Go, Again, Left, Over, Stopped}
use Rattle.turn_costs.specs.declared.actions.Actions.{Actions}
use Rattle.turn_costs.specs.declared.costs.Costs.{Costs}
use Rattle.turn_costs.specs.Actions.{come_in_order, handling_steps, memory_steps, messages_of, needs_bus}
use Rattle.even_speed.specs.declared.pricing.Free.{Free}
use Rattle.even_speed.specs.declared.pricing.Price.{Price}
use Rattle.even_speed.specs.Account.{nothing_spent, total}

-- the turn costs nothing
abbrev pub no_price : Price
no_price = record { needs_bus = false; in_order = false; bus = 0; spent = nothing_spent }

-- its actions cost so much; each message holds the bus as long
abbrev pub price_of : Costs → Actions → Price
price_of costs a = record {
  needs_bus = needs_bus a;
  in_order = come_in_order a;
  bus = messages_of a * costs.hold;
  spent = record { handling = handling_steps costs a; memory = memory_steps costs a; queue = 0 };
}

-- so where turns cost something
abbrev pub price_for : Option Costs → Actions → Price
price_for (Some costs) a = price_of costs a
price_for None a = no_price

-- no turn costs more
pub record IsLow (p : Price) : Type 0 where
  pub bus : p.bus ≤ 68000000
  pub spent : total p.spent ≤ 69000000

-- at the start of the run nothing is taken
abbrev pub all_free : Free
all_free = record { began = 0; bus = 0; order = 0 }

-- the later of two times
abbrev pub later : ℕ → ℕ → ℕ
later now due = if nat_le now due then due else now

abbrev pub if_needed : Bool → ℕ → ℕ → ℕ
if_needed needs free at = if needs then later free at else at

-- when a turn begins: as soon as it is due, but not before the last one, nor before the bus is free and the turn before it of those that
-- come in order is over, where it needs them
abbrev pub begins : Free → Price → ℕ → ℕ
begins free p due = if_needed p.in_order free.order (if_needed p.needs_bus free.bus (later free.began due))

-- an epoch has been left
abbrev pub leaves : Answer → Bool
leaves (Go hart) = false
leaves (Again cause) = false
leaves Left = true
leaves (Over end) = true
leaves (Stopped cause) = false

-- up to when the turn's messages hold the bus
abbrev pub held_until : ℕ → ℕ → ℕ → ℕ
held_until bus at messages = if messages == 0 then bus else later bus at + messages

-- what is free after a turn that began at this time
abbrev pub free_after : Free → ℕ → Price → Answer → Free
free_after free at p answer = record {
  began = at;
  bus = held_until free.bus at p.bus;
  order = if_needed (p.in_order || leaves answer) (at + total p.spent) free.order;
}

-- when a run is over whose last turn began at this time: no commit goes on after it
abbrev pub over_at : Free → ℕ → Price → ℕ
over_at free at p = later free.order (at + total p.spent) + 1
