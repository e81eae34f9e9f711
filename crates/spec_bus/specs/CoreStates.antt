-- What a core of the machine holds, as a core of a bus.
use Rattle.std.specs.Prelude.{◌≡◌, ℕ, ◌+◌, ◌*◌, ◌/◌, ◌%◌, ◌≤◌, ◌==◌, ◌&&◌, Bool, true, false, if◌then◌else◌}
use Rattle.spec_states.specs.declared.next.Next.{Next}
use Rattle.spec_states.specs.Copies.{no_copy, IsMarked}
use Rattle.spec_states.specs.Mask.{IsWithinLine}
use Rattle.spec_states.specs.States.{is_speculative, is_modified}
use Rattle.cache_lines.specs.declared.line.Line.{Line}
use Rattle.cache_lines.specs.Lines.{Contents, line_in, way_at}
use Rattle.cache_lines.specs.Protocol.{copy_at}
use Rattle.orb.specs.Lines.{holds, is_full}
use Rattle.bus_states.specs.Bus.{CoreState}
use Rattle.bus_states.specs.Messages.{with_copy, dropped_core, changed_core}
use Rattle.spec_bus.specs.declared.bus_core.Core.{Core}

abbrev pub state_of : Core → CoreState
state_of core =
    record {
      line_length = core.cache.line_length;
      geometry = core.cache.geometry;
      copy = copy_at core.cache;
      way = way_at core.cache;
      buffer = core.orb;
      attempt = core.attempt;
    }

-- a core that hears a message about this line: it is violated and the line is gone, or its copy changes so
abbrev pub heard : ℕ → Bool → Next → (ℕ → ℕ) → CoreState → CoreState
heard addr violated next cell core =
    if violated then with_copy addr no_copy (dropped_core core) else changed_core addr next cell core

-- a core that may hear it: a marked copy has a mark, and where the core is not violated the line is not in its buffer, or has
-- room there, where it enters
pub record MayHear (core : CoreState) (addr : ℕ) (violated : Bool) (next : Next) : Type 0 where
  pub marked : is_speculative (core.copy addr).state ≡ true → IsMarked (core.copy addr).marks
  pub entry : violated ≡ false → next.enters ≡ true → holds core.buffer.lines addr ≡ false
  pub room : violated ≡ false → (next.enters && is_full core.buffer) ≡ false

-- a core's copy of this line may change so: the mask of the change lies within a line, and where the line enters the core's buffer,
-- it is not there and has room
pub record MayChange (core : CoreState) (addr : ℕ) (next : Next) : Type 0 where
  pub mask : IsWithinLine core.line_length next.marks.bytes
  pub entry : next.enters ≡ true → holds core.buffer.lines addr ≡ false
  pub room : (next.enters && is_full core.buffer) ≡ false

-- the line in this place of a cache, counted set by set, and in a set way by way
abbrev pub line_in_place : Contents → ℕ → Line
line_in_place cache place = line_in cache (place / cache.geometry.ways * cache.line_length) (place % cache.geometry.ways)

-- is the line in this place M, and the one at this address?
abbrev pub is_modified_in : Contents → ℕ → ℕ → Bool
is_modified_in cache addr place =
    is_modified (line_in_place cache place).state && ((line_in_place cache place).addr == addr)

-- each line that is M in the cache lies in a memory of this size
abbrev pub FitsMemory : Contents → ℕ → Type 0
FitsMemory cache size =
    (addr : ℕ) → is_modified (copy_at cache addr).state ≡ true → addr + cache.line_length ≤ size
