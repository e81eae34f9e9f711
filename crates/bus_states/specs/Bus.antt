-- What the cores of a bus and its memory hold, line by line. A line is named by the address of its first byte.
-- Source: a single bus that every cache hears, after Papamarcos and Patel, "A Low-Overhead Coherence Solution for
-- Multiprocessors with Private Cache Memories", ISCA 1984; attempts, marks and the ownership required buffer after Steffan,
-- Colohan, Zhai and Mowry, "A Scalable Approach to Thread-Level Speculation", ISCA 2000.
use Rattle.std.specs.Prelude.{ℕ, zero, suc, ◌+◌, ◌*◌, ◌/◌, ◌%◌, ◌||◌, nat_lt, Bool, false, if◌then◌else◌, [], Option, None}
use Rattle.spec_states.specs.Copies.{LineCopy, no_copy, merged_line}
use Rattle.spec_states.specs.States.{is_modified}
use Rattle.cache_lines.specs.Lines.{Geometry}
use Rattle.orb.specs.Lines.{Buffer}
use Rattle.violations.specs.declared.attempt.Attempt.{Attempt}
use Rattle.violations.specs.View.{Shape, epoch_of}

-- what a core holds: the bytes of a line of its cache, its sets and ways, its copy of the line at each address, the way of its
-- set in which that line stands (none where the core has no copy), its ownership required buffer, its attempt
pub record CoreState : Type 0 where
  pub line_length : ℕ
  pub geometry : Geometry
  pub copy : ℕ → LineCopy
  pub way : ℕ → Option ℕ
  pub buffer : Buffer
  pub attempt : Option Attempt

-- how many cores there are and bytes of memory, the bytes of a line, the sets and ways of each cache, each core by its number,
-- memory's byte at each address
pub record Bus : Type 0 where
  pub shape : Shape
  pub line_length : ℕ
  pub geometry : Geometry
  pub core : ℕ → CoreState
  pub memory : ℕ → ℕ

-- what stands past the last core: it holds nothing and runs nothing
abbrev pub no_core : CoreState
no_core =
    record {
      line_length = 0;
      geometry = record { sets = 0; ways = 0 };
      copy = λ _. no_copy;
      way = λ _. None;
      buffer = record { limit = 0; lines = [] };
      attempt = None;
    }

-- the line in which this byte lies, and the byte's place there
abbrev pub line_of : ℕ → ℕ → ℕ
line_of line_length addr = line_length * (addr / line_length)

abbrev pub offset_of : ℕ → ℕ → ℕ
offset_of line_length addr = addr % line_length

-- the bytes of the line at this address, in a memory of lines of this length
abbrev pub memory_line : ℕ → (ℕ → ℕ) → ℕ → ℕ → ℕ
memory_line line_length memory addr x = if nat_lt x line_length then memory (addr + x) else 0

-- the bytes of the M copy among the cores below n, else these
unfoldable pub committed_among : ℕ → (ℕ → LineCopy) → (ℕ → ℕ) → ℕ → ℕ
committed_among zero copies line = line
committed_among (suc n) copies line =
    if is_modified (copies n).state then (copies n).cell else committed_among n copies line

-- the committed line: the bytes of its M copy, else those of memory
abbrev pub committed : Bus → ℕ → ℕ → ℕ
committed bus addr =
    committed_among bus.shape.cores (λ k. (bus.core k).copy addr) (memory_line bus.line_length bus.memory addr)

-- what a core sees of a line: the bytes that it has modified, and the committed ones beside them
abbrev pub sees : Bus → ℕ → ℕ → ℕ → ℕ
sees bus core addr =
    merged_line ((bus.core core).copy addr).marks.bytes ((bus.core core).copy addr).cell (committed bus addr)

-- does core k run a later epoch than this core?
abbrev pub is_later : Bus → ℕ → ℕ → Bool
is_later bus core k = nat_lt (epoch_of (bus.core core).attempt) (epoch_of (bus.core k).attempt)

-- does some core below n pass the test?
unfoldable pub some_core : ℕ → (ℕ → Bool) → Bool
some_core zero test = false
some_core (suc n) test = test n || some_core n test
