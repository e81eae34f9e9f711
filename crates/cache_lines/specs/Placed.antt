-- What every cache keeps: each line in its place.
use Rattle.std.specs.Prelude.{◌≡◌, ◌≢◌, ℕ, ◌%◌, ◌*◌, ◌<◌, ◌≤◌, true, false, length}
use Rattle.spec_states.specs.Mask.{IsWithinLine}
use Rattle.spec_states.specs.States.{is_valid}
use Rattle.cache_lines.specs.declared.line.Line.{Line}
use Rattle.cache_lines.specs.Cells.{cell_of}
use Rattle.cache_lines.specs.Lines.{Contents, IsGeometry, set_of, line_in, is_copy_of}
use Rattle.rv32_image.specs.Machine.{is_line_length}

-- no other way of its set has a valid copy of the line at this address
abbrev pub IsNotElsewhere : Contents → ℕ → ℕ → Type 0
IsNotElsewhere cache addr way =
    (other : ℕ) → other < cache.geometry.ways → other ≢ way → is_copy_of (line_in cache addr other) addr ≡ false

-- the line has no mark and no byte past this length
pub record FitsLength (line_length : ℕ) (line : Line) : Type 0 where
  pub mask : IsWithinLine line_length line.marks.bytes
  pub cells : (x : ℕ) → line_length ≤ x → cell_of line x ≡ 0

-- each valid line stands in the set of its address, which is a multiple of the line length, its address stands once among
-- the valid lines, and it has nothing past the line length
pub record IsPlaced (cache : Contents) : Type 0 where
  pub length_is : is_line_length cache.line_length ≡ true
  pub geometry_is : IsGeometry cache.geometry
  pub size : length cache.lines ≡ cache.geometry.sets * cache.geometry.ways
  pub aligned : (addr way : ℕ) → way < cache.geometry.ways → is_valid (line_in cache addr way).state ≡ true
      → (line_in cache addr way).addr % cache.line_length ≡ 0
  pub in_set : (addr way : ℕ) → way < cache.geometry.ways → is_valid (line_in cache addr way).state ≡ true
      → set_of cache (line_in cache addr way).addr ≡ set_of cache addr
  pub once : (addr way : ℕ) → way < cache.geometry.ways → is_valid (line_in cache addr way).state ≡ true
      → IsNotElsewhere cache (line_in cache addr way).addr way
  pub fits : (addr way : ℕ) → way < cache.geometry.ways → is_valid (line_in cache addr way).state ≡ true
      → FitsLength cache.line_length (line_in cache addr way)

-- the line may stand in this way of the set of that address
pub record MayStand (cache : Contents) (addr way : ℕ) (line : Line) : Type 0 where
  pub aligned : is_valid line.state ≡ true → line.addr % cache.line_length ≡ 0
  pub in_set : is_valid line.state ≡ true → set_of cache line.addr ≡ set_of cache addr
  pub once : is_valid line.state ≡ true → IsNotElsewhere cache line.addr way
  pub fits : is_valid line.state ≡ true → FitsLength cache.line_length line
