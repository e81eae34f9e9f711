-- Which entries a keyword may begin, and which words may be numbers.
-- Source: this project.
use Rattle.std.specs.Prelude.{◌≡◌, ℕ, Bool, ◌||◌, ◌&&◌, ◌==◌, not, nat_le, slice_index, length, false, List, codes}
use Rattle.std.specs.Str.{bytes_eq}

-- `load` or `store`
abbrev pub is_access : List ℕ → Bool
is_access keyword = bytes_eq keyword (codes "load") || bytes_eq keyword (codes "store")

-- neither of these, and not `fault`
pub record IsOther (keyword : List ℕ) : Type 0 where
  pub no_access : is_access keyword ≡ false
  pub no_fault : bytes_eq keyword (codes "fault") ≡ false

-- one to ten bytes, with no leading 0 except 0 itself
abbrev pub is_spelled : List ℕ → Bool
is_spelled word = not (length word == 0) && nat_le (length word) 10 && (length word == 1 || not (slice_index word 0 == 48))
