-- Registers as they are kept.
use Rattle.std.proofs.Common.{◌≡◌, ℕ, List, [], ◌∷◌, ◌++◌, length, take, slice_index, ◌∙◌, sym, arith}
use Rattle.std.proofs.lemmas.List.{take_all, take_more}

-- the registers, and what was written to x0
pub record RegisterFile : Type 0 where
  pub x : List ℕ
  pub unread : ℕ

abbrev pub file_of : List ℕ → RegisterFile
file_of places = record { x = take 32 places; unread = slice_index places 32 }

abbrev pub places_of : RegisterFile → List ℕ
places_of file = file.x ++ (file.unread ∷ [])

pub places_back : (places : List ℕ) → length places ≡ 33 → places_of (file_of places) ≡ places
places_back places long = sym (take_more places 32 0 (omega (arith, long))) ∙ take_all 33 places (omega (arith, long))
