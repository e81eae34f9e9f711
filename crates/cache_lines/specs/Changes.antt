-- The line that a call picks, and what it makes of a line and of the copies that a cache holds.
use Rattle.std.specs.Prelude.{◌≡◌, ℕ, ◌%◌, ◌==◌, ◌<◌, Bool, false, not, if◌then◌else◌, map, Option, None}
use Rattle.std.specs.Option.{option_or}
use Rattle.spec_states.specs.declared.next.Next.{Next}
use Rattle.spec_states.specs.Copies.{LineCopy, no_copy}
use Rattle.spec_states.specs.States.{is_valid, is_speculative}
use Rattle.spec_states.specs.Tables.{violation, settlement}
use Rattle.cache_lines.specs.declared.line.Line.{Line}
use Rattle.cache_lines.specs.Lines.{Contents, line_in, is_copy_of, lowest_way, way_at}
use Rattle.cache_lines.specs.Placed.{IsNotElsewhere}
use Rattle.cache_lines.specs.Protocol.{copy_at, copy_of_line}

abbrev pub is_invalid : Line → Bool
is_invalid line = not (is_valid line.state)

abbrev pub is_unmarked : Line → Bool
is_unmarked line = not (is_speculative line.state)

-- the way that a line of this address would take: the lowest invalid one, else the lowest unmarked one
abbrev pub victim_of : Contents → ℕ → Option ℕ
victim_of cache addr = option_or (lowest_way is_invalid cache addr) (lowest_way is_unmarked cache addr)

-- the way has the copy of the line at this address, and no other way has
pub record IsFound (cache : Contents) (addr way : ℕ) : Type 0 where
  pub in_ways : way < cache.geometry.ways
  pub copy : copy_at cache addr ≡ copy_of_line (line_in cache addr way)
  pub copy_of_it : (other : ℕ) → is_copy_of (line_in cache addr way) other ≡ (addr == other)
  pub once : IsNotElsewhere cache addr way
  pub aligned : addr % cache.line_length ≡ 0

-- no way has a copy of the line at this address
pub record IsAbsent (cache : Contents) (addr : ℕ) : Type 0 where
  pub nowhere : (way : ℕ) → way < cache.geometry.ways → is_copy_of (line_in cache addr way) addr ≡ false
  pub copy : copy_at cache addr ≡ no_copy

-- the line with the state and the marks of this change
abbrev pub changed_line : Line → Next → Line
changed_line line next = record line { state = next.state; marks = next.marks }

-- the line after a violation of its core's epoch
abbrev pub rolled_back_line : Line → Line
rolled_back_line line = changed_line line (violation line.state line.marks)

-- the line after its core's publish
abbrev pub published_line : Bool → Line → Line
published_line alone line = changed_line line (settlement line.state line.marks alone)

-- the cache, with each line changed so
abbrev pub with_each_line : (Line → Line) → Contents → Contents
with_each_line change cache = record cache { lines = map change cache.lines }

-- the line came into this way of its set: the copy of its address is the new line, the line that stood there is gone,
-- and the other copies are as before
abbrev pub CopiesAreFilled : Contents → Contents → ℕ → Line → Type 0
CopiesAreFilled old new way line =
    (addr : ℕ) → copy_at new addr
    ≡ (if is_copy_of line addr then copy_of_line line
    else (if is_copy_of (line_in old line.addr way) addr then no_copy else copy_at old addr))

-- each line that the cache holds stands in this way
abbrev pub StandIn : Contents → (ℕ → Option ℕ) → Type 0
StandIn cache way = (addr : ℕ) → way_at cache addr ≡ (if is_valid (copy_at cache addr).state then way addr else None)

-- the copy in this way of the set of `addr` is changed so, and the other copies are as before
abbrev pub CopiesChange : Contents → Contents → ℕ → ℕ → (LineCopy → LineCopy) → Type 0
CopiesChange old new addr way change =
    (other : ℕ) → copy_at new other
    ≡ (if is_copy_of (line_in old addr way) other then change (copy_at old other) else copy_at old other)

-- each copy is changed so
abbrev pub CopiesAllChange : Contents → Contents → (LineCopy → LineCopy) → Type 0
CopiesAllChange old new change = (addr : ℕ) → copy_at new addr ≡ change (copy_at old addr)
