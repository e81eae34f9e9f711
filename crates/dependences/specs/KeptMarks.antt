-- What the code keeps of something beside places: that of those up to the highest that was marked, of so many places.
use Rattle.std.specs.Prelude.{ℕ, ◌-◌, ◌≤◌, List, ◌++◌, length, replicate}

-- that of all places
abbrev pub filled : {A : Type 0} → A → List A → ℕ → List A
filled none items size = items ++ replicate (size - length items) none

-- there is room for it
pub record HasRoom {A : Type 0} (items : List A) (size capacity : ℕ) : Type 0 where
  pub within : length items ≤ size
  pub room : size ≤ capacity
