-- What the code keeps of the loads that wait.
use Rattle.std.specs.Prelude.{◌≡◌, ℕ, ◌==◌, ◌&&◌, ◌||◌, Bool, List, [], length, not, Option, Some, None, false, nat_lt}
use Rattle.std.specs.List.Sorted.{IsNonDecreasing, IsSorted}
use Rattle.std.specs.Ordering.{nat_cmp, ordering_then}
use Rattle.std.specs.declared.cmp.Ordering.{Ordering}
use Rattle.even_speed.specs.declared.grain.Grain.{Grain}
use Rattle.even_speed.specs.Grain.{HasPieces, piece_by}
use Rattle.even_speed.specs.Held.{Holding, holding}

-- addresses of code; pieces of memory, each with an epoch that stores there; and what the pieces are
pub record HoldsView : Type 0 where
  pub places : List ℕ
  pub stores : List (ℕ × ℕ)
  pub grain : Grain

abbrev pub holding_of : HoldsView → Holding
holding_of h = holding h.places h.stores (piece_by h.grain)

-- no load waits
pub record HoldsNone (h : HoldsView) : Type 0 where
  pub places : h.places ≡ []
  pub stores : h.stores ≡ []

-- does no load wait?
abbrev pub holds_none : HoldsView → Bool
holds_none h = (length h.places == 0) && (length h.stores == 0)

-- some load waits for stores
abbrev pub has_stores : HoldsView → Bool
has_stores h = not (length h.stores == 0)

-- by the piece, and then by the epoch
abbrev pub pair_order : ℕ × ℕ → ℕ × ℕ → Ordering
pair_order x y = ordering_then (nat_cmp x.0 y.0) (nat_cmp x.1 y.1)

-- it stands before the stores in this piece from an epoch on
abbrev pub is_before : ℕ → ℕ → ℕ × ℕ → Bool
is_before piece epoch x = nat_lt x.0 piece || ((x.0 == piece) && nat_lt x.1 epoch)

-- it is a store in this piece by an epoch before this one
abbrev pub is_of : ℕ → ℕ → Option (ℕ × ℕ) → Bool
is_of piece epoch (Some x) = (x.0 == piece) && nat_lt x.1 epoch
is_of piece epoch None = false

-- both lists are in order, and there are such pieces
pub record AreOrdered (addresses : List ℕ) (pairs : List (ℕ × ℕ)) (grain : Grain) : Type 0 where
  pub places : IsNonDecreasing addresses
  pub stores : IsSorted pair_order pairs
  pub pieces : HasPieces grain
