-- A past is a list of entries, each with the number of the pass that made it.
use Rattle.std.specs.Prelude.{◌≡◌, ℕ, Bool, ◌&&◌, nat_lt, nat_le, List, ◌++◌, filter, length, All, if◌then◌else◌}

-- a past begins with what was seen of it
pub record StartsWith {X : Type 0} (past seen : List X) : Type 0 where
  pub rest : List X
  pub is : past ≡ seen ++ rest

module _ {W : Type 0} where
  -- whether the number of an entry is one of lo..hi
  abbrev pub is_of : ℕ → ℕ → ℕ × W → Bool
  is_of lo hi e = nat_le lo e.0 && nat_lt e.0 hi

  -- the entries of a past whose numbers lie in lo..hi
  abbrev pub entries_of : ℕ → ℕ → List (ℕ × W) → List (ℕ × W)
  entries_of lo hi past = filter (is_of lo hi) past

  -- the longer of two beginnings of one past
  abbrev pub longer : List (ℕ × W) → List (ℕ × W) → List (ℕ × W)
  longer a b = if nat_lt (length a) (length b) then b else a

  -- the past has grown at its end, by entries of this number alone
  pub record GrowsBy (who : ℕ) (old new : List (ℕ × W)) : Type 0 where
    pub added : List (ℕ × W)
    pub is : new ≡ old ++ added
    pub by : All (λ e. e.0 ≡ who) added
