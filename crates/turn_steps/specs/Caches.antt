-- What a core on the bus holds: its cache way by way, and its buffer; and the text of what of it changed.
-- Source: this project.
use Rattle.std.specs.Prelude.{◌≡◌, ℕ, zero, suc, ◌+◌, ◌-◌, ◌*◌, ◌/◌, ◌%◌, ◌==◌, ◌&&◌, ◌<◌, nat_le, Bool, true, false, List, [], ◌∷◌, ◌++◌, length, slice_get, Option, Some, None, option_map, if◌then◌else◌}
use Rattle.std.specs.List.{find, range_with_len, slice_index_or}
use Rattle.std.specs.BTreeSet.{BTreeSet, contains}
use Rattle.std.specs.Ordering.{nat_cmp}
use Rattle.cache_lines.specs.declared.line.Line.{Line}
use Rattle.rv32_image.specs.declared.apart.Apart.{Apart}
use Rattle.rv32_image.specs.declared.machine.Machine.{Machine}
use Rattle.rv32_image.specs.Machine.{IsMachineFor}
use Rattle.rv32_image.specs.Places.{of_places, place}
use Rattle.spec_states.specs.declared.line.LineState.TheVariants.{I}
use Rattle.spec_states.specs.Mask.{has}
use Rattle.spec_states.specs.States.{is_valid}
use Rattle.spec_states.specs.Tables.{no_marks}
use Rattle.cache_lines.specs.Protocol.{copy_of_line}
use Rattle.violations.specs.View.{Shape}
use Rattle.bus_states.specs.Bus.{Bus}
use Rattle.bus_states.specs.Coherent.{IsCoherent}
use Rattle.spec_bus.specs.Cached.{CachedView, bus, line_in, machine_of}
use Rattle.spec_bus.specs.Laws.{IsPlacedCore}
use Rattle.turn_steps.specs.Places.{Standing, changed, orb_line, way_changes}

-- the lines of the cache, set by set and way by way, and those of the buffer in its order
pub record Held : Type 0 where
  pub ways : List Line
  pub orb : List ℕ

-- how many lines a cache of this machine has
abbrev pub place_count : Machine → ℕ
place_count machine = machine.sets * machine.ways

-- the line that stands in a place of a core's cache
abbrev pub line_at : Machine → CachedView → ℕ → ℕ → Line
line_at machine v core place = line_in v core (place / machine.ways * machine.line_length) (place % machine.ways)

-- those in the first places
unfoldable pub lines_below : Machine → CachedView → ℕ → ℕ → List Line
lines_below machine v core zero = []
lines_below machine v core (suc place) = lines_below machine v core place ++ line_at machine v core place ∷ []

-- what a core holds
abbrev pub held : Machine → CachedView → ℕ → Held
held machine v core = record { ways = lines_below machine v core (place_count machine); orb = ((bus v).core core).buffer.lines }

-- the valid copy that a line is
abbrev pub standing : Line → Option Standing
standing line = if is_valid line.state then Some (record { addr = line.addr; copy = copy_of_line line }) else None

-- beyond the end of a list of lines
abbrev pub no_line : Line
no_line = record { addr = 0; state = I; marks = no_marks; cells = [] }

-- those of a list of lines
abbrev pub standing_at : List Line → ℕ → Option Standing
standing_at lines place = standing (slice_index_or lines place no_line)

-- the text of what isn't as it was: the ways, and then the buffer
abbrev pub changes : Machine → ℕ → Held → Held → List ℕ
changes machine core old now =
    way_changes machine core (standing_at old.ways) (standing_at now.ways) (place_count machine) ++ changed (orb_line core old.orb) (orb_line core now.orb)

-- of each of so many cores
unfoldable pub held_changes : Machine → CachedView → CachedView → ℕ → List ℕ
held_changes machine old now zero = []
held_changes machine old now (suc core) = held_changes machine old now core ++ changes machine core (held machine old core) (held machine now core)

-- ---- the cores of a bus

-- a way is this one
abbrev pub is_way : ℕ → Option ℕ → Bool
is_way way None = false
is_way way (Some other) = other == way

-- the line at this address stands in this place of the core's cache: in its set and its way
abbrev pub stands_in : Bus → ℕ → ℕ → ℕ → Bool
stands_in b core place addr =
    (addr / b.line_length % b.geometry.sets == place / b.geometry.ways) && is_way (place % b.geometry.ways) ((b.core core).way addr)

-- the copy that stands there, by the bus: there is at most one
abbrev pub standing_in : Bus → ℕ → ℕ → Option Standing
standing_in b core place =
    option_map (λ addr. record { addr = addr; copy = (b.core core).copy addr }) (find (stands_in b core place) (range_with_len 0 b.shape.size))

-- the text of what a core holds otherwise on the second of two buses: the ways, and then the buffer
abbrev pub core_changes : ℕ → Bus → Bus → List ℕ
core_changes core old now = way_changes now.shape.machine core (standing_in old core) (standing_in now core) (place_count now.shape.machine)
    ++ changed (orb_line core (old.core core).buffer.lines) (orb_line core (now.core core).buffer.lines)

-- of each of so many cores
unfoldable pub bus_changes : Bus → Bus → ℕ → List ℕ
bus_changes old now zero = []
bus_changes old now (suc core) = bus_changes old now core ++ core_changes core old now

-- ---- what was shown

-- they are what so many cores hold, core by core, in whose caches each line stands in its place
pub record AreHeld (machine : Machine) (v : CachedView) (count : ℕ) (shown : List Held) : Type 0 where
  pub count_is : length shown ≡ count
  pub each : (k : ℕ) → k < count → slice_get shown k ≡ Some (held machine v k)
  pub placed : (k : ℕ) → k < count → IsPlacedCore v.cores k

-- of each core there are all lines of a cache of this machine
abbrev pub AreWhole : Machine → List Held → Type 0
AreWhole machine shown = (k : ℕ) (h : Held) → slice_get shown k ≡ Some h → length h.ways ≡ place_count machine

-- this was shown of its cores, which are those of this machine and a memory of so many bytes
pub record AreShown (machine : Machine) (size : ℕ) (shown : List Held) (v : CachedView) : Type 0 where
  pub coherent : IsCoherent (bus v)
  pub allowed : IsMachineFor size machine
  pub size_is : size ≡ v.size
  pub machine_is : machine ≡ machine_of v
  pub cores_are : AreHeld (of_places machine) v (bus v).shape.cores shown

-- of each core of a store of this shape
pub record IsOfShape (machine : Machine) (size : ℕ) (shown : List Held) (shape : Shape) : Type 0 where
  pub machine_is : machine ≡ shape.machine
  pub size_is : size ≡ shape.size
  pub whole : AreWhole (of_places machine) shown
  pub count : length shown ≡ shape.cores

-- the text of what so many cores hold otherwise in the second of two stores than in the first
abbrev pub cached_changes : ℕ → CachedView → CachedView → List ℕ
cached_changes cores old now = bus_changes (bus old) (bus now) cores

-- ---- the rows of stored bytes

-- a set has the rows that another has
abbrev pub HasRowsOf : BTreeSet ℕ → BTreeSet ℕ → Type 0
HasRowsOf old new = (row : ℕ) → contains nat_cmp old row ≡ true → contains nat_cmp new row ≡ true

-- the byte at this address lies in this line
abbrev pub LiesIn : Machine → ℕ → ℕ → ℕ → Type 0
LiesIn machine size a line = machine.line_length * (place machine size a / machine.line_length) ≡ line

-- it has the row of each byte of memory that was stored in this line
abbrev pub HasOwnRows : Machine → ℕ → Line → BTreeSet ℕ → Type 0
HasOwnRows machine size line rows = (a : ℕ) → a < size → LiesIn machine size a line.addr
    → has line.marks.bytes (place machine size a % machine.line_length) ≡ true → contains nat_cmp rows (a / 16) ≡ true

-- the row of the first byte of the line at this place: behind memory that of a piece of bytes that lie apart
abbrev pub first_row : Option Apart → ℕ → ℕ → ℕ → ℕ
first_row None size long line = line / 16
first_row (Some apart) size long line = if nat_le size line then (apart.first + (line - size) / long * apart.piece) / 16 else line / 16

-- the row is this one or one of the four behind it
abbrev pub is_of_five : ℕ → ℕ → Bool
is_of_five first row = nat_le first row && nat_le row (first + 4)
