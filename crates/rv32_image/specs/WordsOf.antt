-- The words that a line was found to have.
use Rattle.std.specs.Prelude.{◌≡◌, ℕ, List, [], ◌∷◌}
use Rattle.rv32_image.specs.declared.words.Words.{Words}
use Rattle.rv32_image.specs.declared.words.Words.TheVariants.{One, Two, Three, Other}

-- more than three
abbrev pub AreMany : List (List ℕ) → Type 0
AreMany (first ∷ second ∷ third ∷ fourth ∷ others) = Unit {0}
AreMany words = ⊥

abbrev pub AreWords : Words → List (List ℕ) → Type 0
AreWords (One first) words = words ≡ first.now ∷ []
AreWords (Two first second) words = words ≡ first.now ∷ second.now ∷ []
AreWords (Three first second third) words = words ≡ first.now ∷ second.now ∷ third.now ∷ []
AreWords Other words = AreMany words
