-- A message on the bus, and what it makes of the cores.
use Rattle.std.specs.Prelude.{◌≡◌, ℕ, ◌-◌, ◌==◌, ◌&&◌, ◌||◌, Bool, true, false, not, if◌then◌else◌, [], ◌∷◌, ◌++◌, Option, Some, None}
use Rattle.spec_states.specs.declared.line.LineState.{LineState}
use Rattle.spec_states.specs.declared.line.Marks.{Marks}
use Rattle.spec_states.specs.declared.next.Next.{Next}
use Rattle.spec_states.specs.declared.next.Order.{Order}
use Rattle.spec_states.specs.declared.next.Order.TheVariants.{Earlier, Later}
use Rattle.spec_states.specs.Copies.{LineCopy, no_copy, merged_line}
use Rattle.spec_states.specs.Mask.{is_within}
use Rattle.spec_states.specs.States.{is_valid, is_modified, is_speculative}
use Rattle.spec_states.specs.Tables.{other_load, other_store, other_publish}
use Rattle.cache_lines.specs.declared.line.Line.{Line}
use Rattle.cache_lines.specs.Cells.{cell_of}
use Rattle.cache_lines.specs.Lines.{is_copy_of}
use Rattle.cache_lines.specs.Protocol.{copy_of_line, changed_copy, rolled_back_copy}
use Rattle.orb.specs.Lines.{Buffer, is_full}
use Rattle.bus_states.specs.declared.notice.Notice.{Notice}
use Rattle.bus_states.specs.declared.notice.Notice.TheVariants.{Load, Store, Publish}
use Rattle.bus_states.specs.Bus.{CoreState, Bus, some_core, sees, is_later}

-- a core tells the others of a line: what it does, and the bytes that the line has for it
pub record Message : Type 0 where
  pub notice : Notice
  pub sender : ℕ
  pub addr : ℕ
  pub line : ℕ → ℕ

-- the core's message about a line as it sees it
abbrev pub message_of : Bus → Notice → ℕ → ℕ → Message
message_of bus notice core addr = record { notice = notice; sender = core; addr = addr; line = sees bus core addr }

-- ---- what becomes of the other cores

abbrev pub order : Bool → Order
order true = Later
order false = Earlier

-- what a notice makes of a copy, by its owner's order: the tables
abbrev pub reply_to : Notice → LineState → Marks → Order → Next
reply_to Load state marks owner = other_load state marks
reply_to Store state marks owner = other_store state marks owner
reply_to Publish state marks owner = other_publish state marks

-- what the message makes of the copy of core k
abbrev pub reply : Bus → Message → ℕ → Next
reply bus message k =
    reply_to message.notice ((bus.core k).copy message.addr).state ((bus.core k).copy message.addr).marks
    (order (is_later bus message.sender k))

-- the bytes that a copy with this mask has then: those of a publish come in outside the mask
abbrev pub bytes_after : Notice → ℕ → (ℕ → ℕ) → (ℕ → ℕ) → ℕ → ℕ
bytes_after Load mask cell line = cell
bytes_after Store mask cell line = cell
bytes_after Publish mask cell line = merged_line mask cell line

-- must the line enter the core's full buffer?
abbrev pub overflows : Bus → Message → ℕ → Bool
overflows bus message k = (reply bus message k).enters && is_full (bus.core k).buffer

-- does the message violate the core's attempt? It has speculatively loaded what changes, or it is later and its buffer is full
abbrev pub violates : Bus → Message → ℕ → Bool
violates bus message k =
    not (k == message.sender)
    && ((reply bus message k).violated || (overflows bus message k && is_later bus message.sender k))

-- does the core hold the sender up? It is earlier, and its buffer is full
abbrev pub holds_up : Bus → Message → ℕ → Bool
holds_up bus message k =
    not (k == message.sender) && (overflows bus message k && not (is_later bus message.sender k))

-- does the core hold the line after the message, beside the sender?
abbrev pub remains : Bus → Message → ℕ → Bool
remains bus message k =
    not (k == message.sender) && (not (violates bus message k) && is_valid (reply bus message k).state)

-- does some core hold the sender up?
abbrev pub is_busy : Bus → Message → Bool
is_busy bus message = some_core bus.shape.cores (holds_up bus message)

-- is the sender alone with the line after the message?
abbrev pub is_alone : Bus → Message → Bool
is_alone bus message = not (some_core bus.shape.cores (remains bus message))

-- the core with these copies: a line that it still holds stands where it stood
abbrev pub with_copies : (ℕ → LineCopy) → CoreState → CoreState
with_copies copies core =
    record core { copy = copies; way = λ a. if is_valid (copies a).state then core.way a else None }

-- the core with this copy of the line at that address
abbrev pub with_copy : ℕ → LineCopy → CoreState → CoreState
with_copy addr copy core = with_copies (λ a. if addr == a then copy else core.copy a) core

abbrev pub emptied : Buffer → Buffer
emptied buffer = record buffer { lines = [] }

-- the buffer, with the line at its end where it enters
abbrev pub with_entry : Bool → ℕ → Buffer → Buffer
with_entry enters addr buffer = if enters then record buffer { lines = buffer.lines ++ addr ∷ [] } else buffer

-- a core that drops its attempt: every copy is rolled back, its buffer is empty
abbrev pub dropped_core : CoreState → CoreState
dropped_core core =
    record (with_copies (λ a. rolled_back_copy (core.copy a)) core) { buffer = emptied core.buffer; attempt = None }

-- a core whose copy changes so, with these bytes. The line enters the core's buffer where the change says so
abbrev pub changed_core : ℕ → Next → (ℕ → ℕ) → CoreState → CoreState
changed_core addr next cell core =
    record (with_copy addr (changed_copy (record (core.copy addr) { cell = cell }) next) core) {
      buffer = with_entry next.enters addr core.buffer;
    }

-- core k after the message: its attempt is violated and the line is gone, or its copy changes
abbrev pub heard_core : Bus → Message → ℕ → CoreState
heard_core bus message k =
    if violates bus message k then with_copy message.addr no_copy (dropped_core (bus.core k))
    else changed_core message.addr (reply bus message k)
    (bytes_after message.notice (reply bus message k).marks.bytes ((bus.core k).copy message.addr).cell message.line)
    (bus.core k)

-- ---- what becomes of the sender and of memory

-- the room for a new line: the way that it takes, and the line that stands there. There is none where every way of its set
-- carries marks. A valid line there leaves the cache
pub record Room : Type 0 where
  pub way : ℕ
  pub line : Line

-- the line that leaves is one that the core holds, without marks
pub record IsRoom (core : CoreState) (room : Option Room) : Type 0 where
  pub held : (r : Room) → room ≡ Some r → is_valid r.line.state ≡ true → core.copy r.line.addr ≡ copy_of_line r.line
  pub unmarked : (r : Room) → room ≡ Some r → is_speculative r.line.state ≡ false

abbrev pub leaves : Option Room → ℕ → Bool
leaves None addr = false
leaves (Some room) addr = is_copy_of room.line addr

-- the way of each line, where the line at this address takes the room
abbrev pub way_with : Option Room → ℕ → (ℕ → Option ℕ) → ℕ → Option ℕ
way_with None addr way a = way a
way_with (Some room) addr way a = if addr == a then Some room.way else way a

-- the core without the line that leaves, and with its way for the line at this address
abbrev pub without_line : ℕ → Option Room → CoreState → CoreState
without_line addr room core =
    record core {
      copy = λ a. if leaves room a then no_copy else core.copy a;
      way = λ a. way_with room addr core.way a;
    }

-- memory with these bytes of the line at that address
abbrev pub with_line : ℕ → ℕ → (ℕ → ℕ) → (ℕ → ℕ) → ℕ → ℕ
with_line line_length addr line memory a = if is_within addr line_length a then line (a - addr) else memory a

-- memory with the line that leaves, where it was M
abbrev pub with_victim : ℕ → Option Room → (ℕ → ℕ) → ℕ → ℕ
with_victim line_length None memory = memory
with_victim line_length (Some room) memory =
    if is_modified room.line.state then with_line line_length room.line.addr (cell_of room.line) memory else memory

-- the bus after the message. The sender has the line with the bytes that it sent, its copy changed so, in the place of the
-- line that leaves; memory has the line too
abbrev pub after_message : Bus → Message → Option Room → Next → Bus
after_message bus message room next =
    record bus {
      core =
          λ k. if k == message.sender then
          changed_core message.addr next message.line (without_line message.addr room (bus.core message.sender))
          else heard_core bus message k;
      memory =
          with_line bus.line_length message.addr message.line (with_victim bus.line_length room bus.memory);
    }
