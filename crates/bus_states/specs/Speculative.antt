-- Speculative loads and stores: what they make of a bus, when they wait, whom they violate.
use Rattle.std.specs.Prelude.{ℕ, ◌&&◌, Bool, true, false, not, if◌then◌else◌, Option, Some, None}
use Rattle.spec_states.specs.declared.next.Next.{Next}
use Rattle.spec_states.specs.Rows.{owns_line}
use Rattle.spec_states.specs.States.{is_valid}
use Rattle.spec_states.specs.Tables.{own_load, own_store}
use Rattle.spec_states.specs.Copies.{LineCopy}
use Rattle.cache_lines.specs.Protocol.{changed_copy, copy_with_number}
use Rattle.orb.specs.Lines.{is_full}
use Rattle.violations.specs.declared.step.WaitCause.{WaitCause}
use Rattle.violations.specs.declared.step.WaitCause.TheVariants.{NoWay, OrbFull, OrbBusy}
use Rattle.bus_states.specs.declared.notice.Notice.TheVariants.{Load, Store}
use Rattle.bus_states.specs.Bus.{Bus}
use Rattle.bus_states.specs.Messages.{Room, message_of, violates, is_busy, is_alone, with_copy, with_line, after_message}
use Rattle.bus_states.specs.Attempts.{with_core}

-- the core's own copy
abbrev pub own : Bus → ℕ → ℕ → LineCopy
own bus core addr = (bus.core core).copy addr

abbrev pub holds_line : Bus → ℕ → ℕ → Bool
holds_line bus core addr = is_valid (own bus core addr).state

-- a core that holds the line needs no room for it
abbrev pub room_for : Bus → ℕ → ℕ → Option Room → Option Room
room_for bus core addr room = if holds_line bus core addr then None else room

abbrev pub no_room : Option Room → Bool
no_room None = true
no_room (Some r) = false

-- the core's own copy changes so and nobody is told. An M copy is written to memory before its first mark
abbrev pub kept_line : Bus → ℕ → ℕ → Next → Bus
kept_line bus core addr next =
    let changed : Bus = with_core core (with_copy addr (changed_copy (own bus core addr) next) (bus.core core)) bus in
    record changed {
      memory = if next.write_back then with_line bus.line_length addr (own bus core addr).cell bus.memory else bus.memory;
    }

-- ---- loads

-- what the load makes of the own copy
abbrev pub load_next : Bus → ℕ → ℕ → ℕ → ℕ → Next
load_next bus core addr offset width =
    own_load (own bus core addr).state (own bus core addr).marks offset width (is_alone bus (message_of bus Load core addr))

-- a hit tells nobody; a miss is a message, and the line comes in as committed
abbrev pub after_load : Bus → ℕ → ℕ → ℕ → ℕ → Option Room → Bus
after_load bus core addr offset width room =
    if holds_line bus core addr then kept_line bus core addr (load_next bus core addr offset width)
    else after_message bus (message_of bus Load core addr) room (load_next bus core addr offset width)

-- ---- waits, in the order in which they are found, all before any change

abbrev pub load_wait : Bus → ℕ → ℕ → Option Room → Option WaitCause
load_wait bus core addr room =
    if holds_line bus core addr then None
    else if no_room room then Some NoWay
    else if is_busy bus (message_of bus Load core addr) then Some OrbBusy
    else None

-- whom the load violates
abbrev pub load_violates : Bus → ℕ → ℕ → ℕ → Bool
load_violates bus core addr k =
    if holds_line bus core addr then false else violates bus (message_of bus Load core addr) k

-- ---- stores

-- what the store makes of the own copy
abbrev pub store_next : Bus → ℕ → ℕ → ℕ → ℕ → Next
store_next bus core addr offset width =
    own_store (own bus core addr).state (own bus core addr).marks offset width
    (is_alone bus (message_of bus Store core addr))

-- does the core own the line, so that it may store to it and tell nobody?
abbrev pub owns : Bus → ℕ → ℕ → Bool
owns bus core addr = owns_line (own bus core addr).state (own bus core addr).marks

-- the core takes hold of the line
abbrev pub after_claim : Bus → ℕ → ℕ → ℕ → ℕ → Option Room → Bus
after_claim bus core addr offset width room =
    if owns bus core addr then kept_line bus core addr (store_next bus core addr offset width)
    else after_message bus (message_of bus Store core addr) (room_for bus core addr room)
    (store_next bus core addr offset width)

-- and the bytes are written into its copy
abbrev pub with_bytes : Bus → ℕ → ℕ → ℕ → ℕ → ℕ → Bus
with_bytes bus core addr offset width value =
    with_core core (with_copy addr (copy_with_number offset width value (own bus core addr)) (bus.core core)) bus

abbrev pub after_store : Bus → ℕ → ℕ → ℕ → ℕ → ℕ → Option Room → Bus
after_store bus core addr offset width value room =
    with_bytes (after_claim bus core addr offset width room) core addr offset width value

abbrev pub store_wait : Bus → ℕ → ℕ → ℕ → ℕ → Option Room → Option WaitCause
store_wait bus core addr offset width room =
    if owns bus core addr then None
    else if not (holds_line bus core addr) && no_room room then Some NoWay
    else if (store_next bus core addr offset width).enters && is_full (bus.core core).buffer then Some OrbFull
    else if is_busy bus (message_of bus Store core addr) then Some OrbBusy
    else None

-- whom the store violates
abbrev pub store_violates : Bus → ℕ → ℕ → ℕ → Bool
store_violates bus core addr k =
    if owns bus core addr then false else violates bus (message_of bus Store core addr) k
