-- When the copies of the cores, their buffers and memory are coherent.
use Rattle.std.specs.Prelude.{◌≡◌, ◌≢◌, ◌≤◌, ◌<◌, ◌+◌, ◌%◌, ℕ, Bool, true, false, not, Option, Some, None}
use Rattle.spec_states.specs.Copies.{LineCopy, IsUpToDate}
use Rattle.spec_states.specs.Rows.{requires_ownership}
use Rattle.spec_states.specs.States.{is_valid, is_exclusive, is_modified, is_speculative}
use Rattle.rv32_image.specs.Machine.{is_line_length}
use Rattle.cache_lines.specs.Lines.{geometry_of}
use Rattle.cache_lines.specs.Protocol.{IsInPlace}
use Rattle.orb.specs.Lines.{holds, IsBuffer}
use Rattle.violations.specs.declared.attempt.Attempt.{Attempt}
use Rattle.bus_states.specs.Bus.{CoreState, Bus, no_core, committed, memory_line}

-- does a core run an attempt that has not published?
abbrev pub speculates : Option Attempt → Bool
speculates None = false
speculates (Some attempt) = not attempt.straight

-- the copies of one line, its bytes in memory, and the committed line
pub record IsCoherentLine (copies : ℕ → LineCopy) (memory committed : ℕ → ℕ) : Type 0 where
  -- beside an M, an E or an SpE copy there is no other
  pub exclusive : (j k : ℕ) → j ≢ k → is_exclusive (copies j).state ≡ true → is_valid (copies k).state ≡ false
  -- just SpS and SpE copies carry marks, and outside its mask a valid copy has the committed bytes
  pub up_to_date : (k : ℕ) → IsUpToDate (copies k) committed
  -- memory has the committed line where there is no M copy
  pub in_memory : ((k : ℕ) → is_modified (copies k).state ≡ false) → (x : ℕ) → memory x ≡ committed x

-- what a core holds
pub record IsCoherentCore (core : CoreState) : Type 0 where
  -- the buffer lists, each once, the core's SpS lines with modified bytes
  pub listed : (addr : ℕ) → holds core.buffer.lines addr ≡ requires_ownership (core.copy addr).state (core.copy addr).marks
  pub buffer : IsBuffer core.buffer
  -- a core without an attempt, or with a straight one, carries no marks
  pub unmarked : (addr : ℕ) → speculates core.attempt ≡ false → is_speculative (core.copy addr).state ≡ false

pub record IsCoherent (bus : Bus) : Type 0 where
  pub length_is : is_line_length bus.line_length ≡ true
  pub length_of : bus.line_length ≡ bus.shape.machine.line_length
  -- a bus knows places alone
  pub of_places : bus.shape.machine.apart ≡ None
  pub geometry_is : bus.geometry ≡ geometry_of bus.shape.machine
  pub whole_lines : bus.shape.size % bus.line_length ≡ 0
  pub lengths : (k : ℕ) → k < bus.shape.cores → (bus.core k).line_length ≡ bus.line_length
  pub geometries : (k : ℕ) → k < bus.shape.cores → (bus.core k).geometry ≡ bus.geometry
  -- each core's buffer takes as many lines as the machine's
  pub limits : (k : ℕ) → k < bus.shape.cores → (bus.core k).buffer.limit ≡ bus.shape.machine.buffer_lines
  pub lines : (addr : ℕ) → addr % bus.line_length ≡ 0
      → IsCoherentLine (λ k. (bus.core k).copy addr) (memory_line bus.line_length bus.memory addr) (committed bus addr)
  pub cores : (k : ℕ) → IsCoherentCore (bus.core k)
  -- a valid copy's address is a multiple of the line length, and no copy has a mark or a byte past that length
  pub in_place : (k addr : ℕ) → IsInPlace bus.line_length addr ((bus.core k).copy addr)
  -- a valid copy is one of a line of memory
  pub inside : (k addr : ℕ) → is_valid ((bus.core k).copy addr).state ≡ true → addr + bus.line_length ≤ bus.shape.size
  pub absent : (k : ℕ) → bus.shape.cores ≤ k → bus.core k ≡ no_core
