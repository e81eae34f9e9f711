-- What contracts see of the caches on a bus.
use Rattle.std.specs.Prelude.{ℕ, List, min, Option, Some, None, slice_get}
use Rattle.rv32_image.specs.declared.machine.Machine.{Machine}
use Rattle.cache_lines.specs.declared.line.Line.{Line}
use Rattle.cache_lines.specs.Lines.{invalid_line}
use Rattle.cache_lines.specs.Lines as lines
use Rattle.rv32_image.specs.declared.apart.Apart.{Apart}
use Rattle.rv32_image.specs.Places.{place}
use Rattle.violations.specs.Relabelled.{relabelled}
use Rattle.violations.specs.View.{Shape, StoreView, Waits}
use Rattle.bus_states.specs.Bus.{Bus}
use Rattle.bus_states.specs.Bus as states
use Rattle.bus_states.specs.Messages.{Room}
use Rattle.bus_states.specs.Speculative.{load_wait, store_wait}
use Rattle.bus_states.specs.Views.{view_of}
use Rattle.spec_bus.specs.declared.bus_core.Core.{Core}
use Rattle.spec_bus.specs.Parts.{bus_of, room_at}

-- the bytes of memory, those of them that have lines of their own, and the bytes of code; the cores and memory by places, and their
-- machine
pub record CachedView : Type 0 where
  pub size : ℕ
  pub apart : Option Apart
  pub code : ℕ
  pub machine : Machine
  pub cores : List Core
  pub memory : List ℕ

-- what they are as a bus, which knows bytes by their places
abbrev pub bus : CachedView → Bus
bus v = bus_of v.code v.machine v.cores v.memory

-- the image's machine, and the place of the byte at an address; one past memory counts as its end
abbrev pub machine_of : CachedView → Machine
machine_of v = record v.machine { apart = v.apart }

abbrev pub place_of : CachedView → ℕ → ℕ
place_of v addr = place (machine_of v) v.size (min addr v.size)

-- the line in which this byte lies, and where it lies there
abbrev pub line_of : CachedView → ℕ → ℕ
line_of v addr = states.line_of (bus v).line_length (place_of v addr)

abbrev pub offset_of : CachedView → ℕ → ℕ
offset_of v addr = states.offset_of (bus v).line_length (place_of v addr)

-- for each core and line the line in the way that it takes: none where every way of its set carries marks
abbrev pub room : CachedView → ℕ → ℕ → Option Room
room v = room_at v.cores

-- a store of places, of a memory of so many bytes
abbrev pub shape_over : ℕ → Option Apart → Shape → Shape
shape_over size apart places =
    record { cores = places.cores; size = size; code = places.code; machine = record places.machine { apart = apart } }

abbrev pub seen : ℕ → Option Apart → StoreView → StoreView
seen size apart places =
    relabelled (place (shape_over size apart places.shape).machine size) (shape_over size apart places.shape) places

-- what they show as a store of speculative epochs: the bus, seen by addresses
abbrev pub store_view : CachedView → StoreView
store_view v = seen v.size v.apart (view_of (bus v))

-- why a load or a store of a core waits, by its address and width
abbrev pub waits : CachedView → Waits
waits v = record {
  load = λ core address width. let line = line_of v address in load_wait (bus v) core line (room v core line);
  store = λ core address width. let line = line_of v address in
      store_wait (bus v) core line (offset_of v address) width (room v core line);
}

abbrev pub line_of_core : Option Core → ℕ → ℕ → Line
line_of_core None addr way = invalid_line
line_of_core (Some core) addr way = lines.line_in core.cache addr way

-- the line that stands in a way of a core's cache, in the set of this address
abbrev pub line_in : CachedView → ℕ → ℕ → ℕ → Line
line_in v core addr way = line_of_core (slice_get v.cores core) addr way
