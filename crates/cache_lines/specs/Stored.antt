-- Where the lines of a cache stand.
use Rattle.std.specs.Prelude.{◌≡◌, ℕ, List, All, length}
use Rattle.spec_states.specs.declared.line.LineState.TheVariants.{I}
use Rattle.cache_lines.specs.declared.line.Line.{Line}
use Rattle.cache_lines.specs.declared.stored.Stored.{Stored}
use Rattle.cache_lines.specs.declared.stored.Stored.TheVariants.{Few, Many}

-- the lines, wherever they are
abbrev pub stored_lines : Stored → List Line
stored_lines (Few lines) = lines
stored_lines (Many noted) = noted.lines

-- so many lines, all of them invalid
pub record AreInvalid (count : ℕ) (lines : List Line) : Type 0 where
  pub count_is : length lines ≡ count
  pub each : All (λ line. line.state ≡ I) lines
