-- What an access of a core to a line does on a bus of caches that costs, in the state before it. A core that has no copy of the line misses;
-- one that has tells the others of a store, unless it is alone with the line or has told them.
-- Source: this project, after the transactions of Papamarcos and Patel, "A Low-Overhead Coherence Solution for Multiprocessors with
-- Private Cache Memories", ISCA 1984.
use Rattle.std.specs.Prelude.{ℕ, ◌+◌, ◌==◌, ◌&&◌, Bool, true, false, not, if◌then◌else◌, Option, Some, None, length}
use Rattle.spec_states.specs.States.{is_modified}
use Rattle.bus_states.specs.Bus.{Bus, some_core}
use Rattle.bus_states.specs.Messages.{Room}
use Rattle.bus_states.specs.Speculative.{own, holds_line, owns}
use Rattle.bus_states.specs.Straight.{stores_alone}
use Rattle.turn_costs.specs.declared.actions.Actions.{Actions}
use Rattle.turn_costs.specs.Actions.{no_actions}

-- one where it is so
abbrev pub count_of : Bool → ℕ
count_of true = 1
count_of false = 0

-- the line that has to leave is M
abbrev pub leaves_modified : Option Room → Bool
leaves_modified None = false
leaves_modified (Some room) = is_modified room.line.state

-- core k is another one, and has the line as M
abbrev pub is_modified_at : Bus → ℕ → ℕ → ℕ → Bool
is_modified_at bus core line k = not (k == core) && is_modified ((bus.core k).copy line).state

-- some core is such a one
abbrev pub is_modified_elsewhere : Bus → ℕ → ℕ → Bool
is_modified_elsewhere bus core line = some_core bus.shape.cores (is_modified_at bus core line)

-- a miss: an M line in whose way the line comes is written back, and so is the M copy of another core
abbrev pub miss_of : Bus → ℕ → ℕ → Option Room → Actions
miss_of bus core line room =
    record no_actions { misses = 1; write_backs = count_of (leaves_modified room) + count_of (is_modified_elsewhere bus core line) }

-- an access to the core's own copy, which tells the others or doesn't. An M copy is written back before its first mark, which a straight
-- access doesn't make
abbrev pub hit_of : Bus → Bool → Bool → ℕ → ℕ → Actions
hit_of bus straight tells core line =
    record no_actions { upgrades = count_of tells; write_backs = count_of (not straight && is_modified (own bus core line).state) }

-- a load, which may be straight
abbrev pub load_of : Bus → Bool → ℕ → ℕ → Option Room → Actions
load_of bus straight core line room = if holds_line bus core line then hit_of bus straight false core line else miss_of bus core line room

-- does a store have to tell the others? A speculative one doesn't to a line that is SpE or has own bytes, a straight one to one that is E or M
abbrev pub store_tells : Bus → Bool → ℕ → ℕ → Bool
store_tells bus true core line = not (stores_alone (own bus core line).state)
store_tells bus false core line = not (owns bus core line)

-- a store, which may be straight
abbrev pub store_of : Bus → Bool → ℕ → ℕ → Option Room → Actions
store_of bus straight core line room =
    if holds_line bus core line then hit_of bus straight (store_tells bus straight core line) core line else miss_of bus core line room

-- how many lines the core's publish asks for
abbrev pub publish_lines : Bus → ℕ → ℕ
publish_lines bus core = length (bus.core core).buffer.lines
