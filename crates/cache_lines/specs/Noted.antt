-- Lines, with a list of the places whose lines may carry marks.
use Rattle.std.specs.Prelude.{◌≡◌, ℕ, ◌<◌, ◌≤◌, ◌==◌, ◌&&◌, Bool, false, true, not, List, All, Contains, count_by, length, slice_index_or}
use Rattle.spec_states.specs.States.{is_speculative}
use Rattle.cache_lines.specs.declared.line.Line.{Line}
use Rattle.cache_lines.specs.Lines.{invalid_line}

-- what contracts see: the lines, and the places in the list
pub record NotedView : Type 0 where
  pub lines : List Line
  pub places : List ℕ

-- the line carries no marks, and would carry none in another state: a rollback and a publish leave it as it is
abbrev pub is_plain : Line → Bool
is_plain line = not (is_speculative line.state) && (not line.marks.loaded && (line.marks.bytes == 0))

abbrev pub line_at : List Line → ℕ → Line
line_at lines place = slice_index_or lines place invalid_line

-- the list has each place whose line isn't plain
unfoldable pub HasMarked : List Line → List ℕ → Type 0
HasMarked lines places = (place : ℕ) → is_plain (line_at lines place) ≡ false → Contains places place

abbrev pub is_listed : List Bool → ℕ → Bool
is_listed listed place = slice_index_or listed place false

-- the list has just the places that these flags say, each once
pub record IsList (places : List ℕ) (listed : List Bool) : Type 0 where
  pub within : All (λ place. place < length listed) places
  pub each : (place : ℕ) → is_listed listed place ≡ true → Contains places place
  pub count : length places ≡ count_by (λ flag. flag) listed

-- there is room for all places, and the list has those of all lines that aren't plain
pub record IsNoted (lines : List Line) (places : List ℕ) (listed : List Bool) (capacity : ℕ) : Type 0 where
  pub list : IsList places listed
  pub flags : length listed ≡ length lines
  pub room : length lines ≤ capacity
  pub marked : HasMarked lines places
