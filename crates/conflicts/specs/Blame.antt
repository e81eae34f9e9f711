-- Which load and which store a violation is blamed on, and at which bytes.
use Rattle.std.specs.Prelude.{ℕ, ◌+◌, ◌-◌, ◌*◌, ◌/◌, ◌==◌, ◌&&◌, if◌then◌else◌, min, not, nat_lt, Bool, false, List, Option, Some, None, is_some, option_and_then, option_map, unwrap_or}
use Rattle.rv32_image.specs.declared.apart.Apart.{Apart}
use Rattle.rv32_image.specs.Image.{LoadedImage}
use Rattle.spec_history.specs.declared.entry.Entry.{Entry}
use Rattle.spec_history.specs.declared.entry.What.{What}
use Rattle.spec_history.specs.declared.entry.What.TheVariants.{Load, Store}
use Rattle.conflicts.specs.declared.explanation.Blame.{Blame}
use Rattle.conflicts.specs.declared.explanation.ByteRange.{ByteRange}
use Rattle.spec_history.specs.declared.kind.Kind.{Kind}
use Rattle.spec_history.specs.declared.kind.Kind.TheVariants.{TrueSharing, SilentStore, FalseSharing}
use Rattle.spec_history.specs.Searches.{first_below, last_below}
use Rattle.conflicts.specs.Attempts.{attempt_does, last_store, first_read, reads_outside}
use Rattle.spec_history.specs.Conflict.{Meeting, is_shared, is_changed, is_beside, line_number}

-- a violation with its cause: where both stand in the history, who made it, who was violated, and the bytes that meet
pub record Violation : Type 0 where
  pub place : ℕ
  pub causer : ℕ
  pub victim : ℕ
  pub cause : ℕ
  pub what : What
  pub kind : Kind
  pub bytes : Meeting

-- the bytes that can be blamed: those that change, else those that are written, else those beside what is written
abbrev pub blamed_by : LoadedImage → Kind → Meeting → ℕ → Bool
blamed_by image TrueSharing m a = is_changed m a
blamed_by image SilentStore m a = is_shared m a
blamed_by image FalseSharing m a = is_beside image m a
blamed_by image kind m a = false

abbrev pub can_be_blamed : LoadedImage → Violation → ℕ → Bool
can_be_blamed image v a = blamed_by image v.kind v.bytes a

abbrev pub is_place : Option ℕ → ℕ → Bool
is_place None place = false
is_place (Some other) place = other == place

-- the victim's load that read a byte from outside first
abbrev pub read_at : List Entry → Violation → ℕ → Option ℕ
read_at entries v a = first_read entries v.victim v.place a

-- the entry at a place is a load that read a byte from outside, and the byte can be blamed
abbrev pub is_read_at : LoadedImage → List Entry → Violation → ℕ → ℕ → Bool
is_read_at image entries v load a = can_be_blamed image v a && reads_outside entries v.victim v.place a load

-- the byte to blame at a load: the lowest of these
abbrev pub blamed_byte : LoadedImage → List Entry → Violation → ℕ → Option ℕ
blamed_byte image entries v load = first_below image.size (is_read_at image entries v load)

-- the load to blame: the first that read one, since the work from there on was wrong
abbrev pub blamed_load : LoadedImage → List Entry → Violation → Option ℕ
blamed_load image entries v = first_below v.place (λ j. is_some (blamed_byte image entries v j))

-- the store that gave a byte the value that the cause writes: the cause, or the last one before it is committed
abbrev pub stored_by : List Entry → ℕ → ℕ → ℕ → What → ℕ → Option ℕ
stored_by entries place causer cause (Store address width value) a = Some cause
stored_by entries place causer cause what a = last_store entries causer place a

abbrev pub store_to : List Entry → Violation → ℕ → Option ℕ
store_to entries v a = stored_by entries v.place v.causer v.cause v.what a

-- the bytes of a piece that has a line of its own
abbrev pub piece_bytes : Option Apart → ℕ → ByteRange
piece_bytes None piece = record { first = 0; length = 0 }
piece_bytes (Some apart) piece = record { first = apart.first + piece * apart.piece; length = min apart.piece (apart.length - piece * apart.piece) }

-- where the bytes of a line are: those of a line of memory are at its addresses, but for those there that lie apart; a line behind memory
-- has the bytes of a piece
abbrev pub line_bytes : LoadedImage → ℕ → ByteRange
line_bytes image line =
    let long = image.machine.line_length in
    let lines = image.size / long in
    if nat_lt line lines then record { first = line * long; length = long } else piece_bytes image.machine.apart (line - lines)

-- where the bytes of the line of a byte are; past memory they are at their addresses
abbrev pub line_around : LoadedImage → ℕ → ByteRange
line_around image a =
    let long = image.machine.line_length in
    if nat_lt a image.size then line_bytes image (line_number image a) else record { first = a / long * long; length = long }

-- the lowest byte of a line that the cause writes
abbrev pub written_in : LoadedImage → Meeting → ℕ → Option ℕ
written_in image m line = first_below image.size (λ a. (line_number image a == line) && is_some (m.writes a))

-- the store to blame for a byte: that to the byte itself, or, where only the line is shared, to the lowest byte of the line that is written
abbrev pub store_beside : LoadedImage → List Entry → Violation → Kind → ℕ → Option ℕ
store_beside image entries v FalseSharing a = option_and_then (store_to entries v) (written_in image v.bytes (line_number image a))
store_beside image entries v kind a = store_to entries v a

abbrev pub blamed_store : LoadedImage → List Entry → Violation → ℕ → Option ℕ
blamed_store image entries v a = store_beside image entries v v.kind a

-- the bytes that go with a blamed one: of all that are written and were read, or, where only the line is shared, of those that were read in its line
abbrev pub goes_with : LoadedImage → Kind → Meeting → ℕ → ℕ → Bool
goes_with image FalseSharing m byte a = is_beside image m a && (line_number image a == line_number image byte)
goes_with image kind m byte a = is_shared m a

-- a byte met at the same two accesses as the blamed one: the same load read it first, and the same store is to blame for it
abbrev pub is_alike : LoadedImage → List Entry → Violation → ℕ → ℕ → ℕ → ℕ → Bool
is_alike image entries v load store byte a =
    goes_with image v.kind v.bytes byte a && (is_place (read_at entries v a) load && is_place (blamed_store image entries v a) store)

-- the address after one, the first of all where there is none
abbrev pub after : Option ℕ → ℕ
after None = 0
after (Some a) = a + 1

-- the longest range of neighbours around a byte of memory that pass a test: from after the last that fails below the byte, up to the first that fails above it
abbrev pub range_around : ℕ → (ℕ → Bool) → ℕ → ByteRange
range_around size test byte =
    let first = after (last_below byte (λ a. not (test a))) in
    let end = unwrap_or (first_below size (λ a. nat_lt byte a && not (test a))) size in
    record { first = first; length = end - first }

-- the neighbouring bytes at which a blamed load and a blamed store met
abbrev pub blamed_range : LoadedImage → List Entry → Violation → ℕ → ℕ → ℕ → ByteRange
blamed_range image entries v load store byte = range_around image.size (is_alike image entries v load store byte) byte

-- the load and the store to blame, the byte, and its neighbours; nothing, where the kind is none of true and false sharing and silent stores
abbrev pub blame_at : LoadedImage → List Entry → Violation → ℕ → Option Blame
blame_at image entries v load = option_and_then (λ byte. option_map (λ store. record {
  load = load;
  store = store;
  byte = byte;
  bytes = blamed_range image entries v load store byte;
}) (blamed_store image entries v byte)) (blamed_byte image entries v load)

abbrev pub blame_of : LoadedImage → List Entry → Violation → Option Blame
blame_of image entries v = option_and_then (blame_at image entries v) (blamed_load image entries v)

-- the line of an access
abbrev pub accessed_line : LoadedImage → What → Option ℕ
accessed_line image (Load address width value) = Some (line_number image address)
accessed_line image (Store address width value) = Some (line_number image address)
accessed_line image what = None

-- where the bytes of that line are
abbrev pub accessed_bytes : LoadedImage → What → Option ByteRange
accessed_bytes image (Load address width value) = Some (line_around image address)
accessed_bytes image (Store address width value) = Some (line_around image address)
accessed_bytes image what = None

abbrev pub stores_in : LoadedImage → ℕ → What → Bool
stores_in image line (Store address width value) = line_number image address == line
stores_in image line what = false

-- the first store of the attempt that a core runs before a place in a line
abbrev pub first_stored_in : LoadedImage → List Entry → ℕ → ℕ → ℕ → Option ℕ
first_stored_in image entries core before line = first_below before (attempt_does entries core before (stores_in image line))
