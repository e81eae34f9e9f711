-- How a run is asked for.
-- Source: this project.
use Rattle.std.specs.Prelude.{ℕ, ◌≤◌, Bool}

-- on how many cores, with room for how many entries, and whether its trace is printed
pub record Options : Type 0 where
  pub cores : ℕ
  pub room : ℕ
  pub trace : Bool

-- there is a core, and room for 16 to 1,048,576 entries
pub record CanRun (cores room : ℕ) : Type 0 where
  pub core : 1 ≤ cores
  pub least : 16 ≤ room
  pub most : room ≤ 1048576
