-- Some of memory's bytes, kept beside it.
use Rattle.std.specs.Prelude.{◌≡◌, ℕ, ◌-◌, ◌<◌, ◌≤◌, ◌^◌, List, [], ◌∷◌, ◌++◌, length, replicate, Option, Some, None, true, is_some, slice_index, slice_index_or, if◌then◌else◌}

-- a byte or none at each address of memory, and for how many more there is room without taking memory
pub record ShadowView : Type 0 where
  pub cells : List (Option ℕ)
  pub room : ℕ

-- the byte at an address, if there is one
abbrev pub byte_in : List (Option ℕ) → ℕ → Option ℕ
byte_in cells a = slice_index_or cells a None

-- the address stands in the list
pub record IsAmong (a : ℕ) (addresses : List ℕ) : Type 0 where
  pub place : ℕ
  pub within : place < length addresses
  pub is : slice_index addresses place ≡ a

-- the list has each address at which there is a byte, once, and no other
pub record Covers (cells : List (Option ℕ)) (addresses : List ℕ) : Type 0 where
  pub small : length cells < 2 ^ 32
  pub within : (place : ℕ) → place < length addresses → slice_index addresses place < length cells
  pub each : (a byte : ℕ) → byte_in cells a ≡ Some byte → IsAmong a addresses
  pub held : (place : ℕ) → place < length addresses → is_some (byte_in cells (slice_index addresses place)) ≡ true
  pub once : (first second : ℕ) → first < length addresses → second < length addresses
      → slice_index addresses first ≡ slice_index addresses second → first ≡ second

-- ---- what the code keeps: cells up to the highest address at which a byte was set, of the first so many addresses

abbrev pub padded : List (Option ℕ) → ℕ → List (Option ℕ)
padded cells size = cells ++ replicate (size - length cells) None

-- the list with this address too, where there is no byte
abbrev pub noted : List (Option ℕ) → List ℕ → ℕ → List ℕ
noted cells addresses addr = if is_some (byte_in cells addr) then addresses else addresses ++ addr ∷ []

-- there is room for the cells of all these addresses, and the list has those of the bytes
pub record IsShadow (cells : List (Option ℕ)) (size capacity : ℕ) (touched : List ℕ) : Type 0 where
  pub within : length cells ≤ size
  pub room : size ≤ capacity
  pub covers : Covers (padded cells size) touched
