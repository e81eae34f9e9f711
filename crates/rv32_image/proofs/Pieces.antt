-- A text has one piece at least.
use Rattle.std.proofs.Common.{ℕ, ◌==◌, Bool, true, false, cond, List, [], ◌∷◌}
use Rattle.std.specs.List.{slice_split, onto_first}
use Rattle.rv32_image.specs.ImageText.{pieces}
use Rattle.rv32_image.specs.WordsOf.{AreMany}

-- the list begins with some piece
abbrev pub HasFirst : List (List ℕ) → Type 0
HasFirst [] = ⊥
HasFirst (piece ∷ others) = Unit {0}

record Begins (parts : List (List ℕ)) : Type 0 where
  pub first : HasFirst parts

onto_begins : (x : ℕ) (parts : List (List ℕ)) → Begins (onto_first x parts)
onto_begins x [] = record { first = tt }
onto_begins x (piece ∷ others) = record { first = tt }

either_begins : (b : Bool) (parts others : List (List ℕ)) → Begins parts → Begins others → Begins (cond b parts others)
either_begins true parts others p q = p
either_begins false parts others p q = q

begins : (p : ℕ → Bool) (text : List ℕ) → Begins (slice_split p text)
begins p [] = record { first = tt }
begins p (x ∷ text) = either_begins (p x) ([] ∷ slice_split p text) _ (record { first = tt }) (onto_begins x (slice_split p text))

four_are_many : (a b c : List ℕ) (parts : List (List ℕ)) → HasFirst parts → AreMany (a ∷ b ∷ c ∷ parts)
four_are_many a b c [] h = absurd h
four_are_many a b c (piece ∷ others) h = tt

-- three words and a separator after them
pub are_many : (a b c rest : List ℕ) → AreMany (a ∷ b ∷ c ∷ pieces 32 rest)
are_many a b c rest = four_are_many a b c (pieces 32 rest) (begins (λ x. x == 32) rest).first
