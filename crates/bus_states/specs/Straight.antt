-- Publish, and the loads and stores of a straight attempt: what they make of a bus, and whom they violate. All other attempts
-- run later epochs then, so none holds the core up.
use Rattle.std.specs.Prelude.{ℕ, ◌||◌, Bool, true, false, if◌then◌else◌, List, [], ◌∷◌, Option, Some, None}
use Rattle.spec_states.specs.declared.line.LineState.{LineState}
use Rattle.spec_states.specs.declared.line.LineState.TheVariants.{I, S, E, M, SpS, SpE}
use Rattle.spec_states.specs.declared.next.Next.{Next}
use Rattle.spec_states.specs.Tables.{no_marks, settlement, next, to}
use Rattle.cache_lines.specs.Cells.{with_number}
use Rattle.cache_lines.specs.Protocol.{changed_copy, published_copy, copy_with_number}
use Rattle.orb.specs.Lines.{without}
use Rattle.violations.specs.declared.attempt.Attempt.{Attempt}
use Rattle.bus_states.specs.declared.notice.Notice.TheVariants.{Load, Publish}
use Rattle.bus_states.specs.Bus.{CoreState, Bus, sees}
use Rattle.bus_states.specs.Messages.{Room, Message, message_of, violates, is_alone, with_copy, with_copies, emptied, after_message}
use Rattle.bus_states.specs.Attempts.{with_core}
use Rattle.bus_states.specs.Speculative.{own, holds_line, room_for}

-- ---- publish

-- the line leaves the core's buffer
abbrev pub released : Bus → ℕ → ℕ → Bus
released bus core addr =
    with_core core
    (record (bus.core core) {
      buffer = record (bus.core core).buffer { lines = without addr (bus.core core).buffer.lines };
    }) bus

-- what its publish makes of the core's copy
abbrev pub publish_next : Bus → ℕ → ℕ → Next
publish_next bus core addr =
    settlement (own bus core addr).state (own bus core addr).marks (is_alone bus (message_of bus Publish core addr))

-- a line of the buffer is published
abbrev pub after_publish_line : Bus → ℕ → ℕ → Bus
after_publish_line bus core addr =
    released (after_message bus (message_of bus Publish core addr) None (publish_next bus core addr)) core addr

-- these lines are, one after the other
unfoldable pub after_publish_lines : Bus → ℕ → List ℕ → Bus
after_publish_lines bus core [] = bus
after_publish_lines bus core (addr ∷ lines) = after_publish_lines (after_publish_line bus core addr) core lines

abbrev pub straight_attempt : Option Attempt → Option Attempt
straight_attempt None = None
straight_attempt (Some attempt) = Some (record attempt { straight = true })

-- every copy of the core is settled: of those that are still marked no other core has to be told. Its buffer is empty and its
-- attempt is straight
abbrev pub settled_core : CoreState → CoreState
settled_core core =
    record (with_copies (λ a. published_copy true (core.copy a)) core) {
      buffer = emptied core.buffer;
      attempt = straight_attempt core.attempt;
    }

abbrev pub after_settling : Bus → ℕ → Bus
after_settling bus core = with_core core (settled_core (bus.core core)) bus

-- the lines of the buffer are published in the order in which they entered, and then every other copy is settled
abbrev pub after_publish : Bus → ℕ → Bus
after_publish bus core = after_settling (after_publish_lines bus core (bus.core core).buffer.lines) core

-- whom the publish of these lines violates
unfoldable pub lines_violate : Bus → ℕ → List ℕ → ℕ → Bool
lines_violate bus core [] k = false
lines_violate bus core (addr ∷ lines) k =
    violates bus (message_of bus Publish core addr) k || lines_violate (after_publish_line bus core addr) core lines k

abbrev pub publish_violates : Bus → ℕ → ℕ → Bool
publish_violates bus core k = lines_violate bus core (bus.core core).buffer.lines k

-- ---- straight accesses

-- a copy goes to this state without marks
abbrev pub unmarked_next : LineState → Next
unmarked_next state = next (to state) no_marks

-- a hit changes nothing; a miss is a message, and the line comes in as committed
abbrev pub after_straight_load : Bus → ℕ → ℕ → Option Room → Bus
after_straight_load bus core addr room =
    let message : Message = message_of bus Load core addr in
    if holds_line bus core addr then bus
    else after_message bus message room (unmarked_next (if is_alone bus message then E else S))

abbrev pub straight_load_violates : Bus → ℕ → ℕ → ℕ → Bool
straight_load_violates bus core addr k =
    if holds_line bus core addr then false else violates bus (message_of bus Load core addr) k

-- may the core store to its unmarked copy and tell nobody?
abbrev pub stores_alone : LineState → Bool
stores_alone I = false
stores_alone S = false
stores_alone E = true
stores_alone M = true
stores_alone SpS = false
stores_alone SpE = false

-- the core's message of a straight store: the line as stored
abbrev pub straight_store_message : Bus → ℕ → ℕ → ℕ → ℕ → ℕ → Message
straight_store_message bus core addr offset width value =
    record (message_of bus Publish core addr) { line = with_number (sees bus core addr) offset width value }

-- an E or M copy becomes M with the bytes; else the line is published as stored, and is S where another copy remains, else M
abbrev pub after_straight_store : Bus → ℕ → ℕ → ℕ → ℕ → ℕ → Option Room → Bus
after_straight_store bus core addr offset width value room =
    let message : Message = straight_store_message bus core addr offset width value in
    if stores_alone (own bus core addr).state then
    with_core core
    (with_copy addr (changed_copy (copy_with_number offset width value (own bus core addr)) (unmarked_next M)) (bus.core core))
    bus
    else after_message bus message (room_for bus core addr room) (unmarked_next (if is_alone bus message then M else S))

abbrev pub straight_store_violates : Bus → ℕ → ℕ → ℕ → ℕ → ℕ → ℕ → Bool
straight_store_violates bus core addr offset width value k =
    if stores_alone (own bus core addr).state then false
    else violates bus (straight_store_message bus core addr offset width value) k
