-- Counts of numbers that pass a test.
use Rattle.std.proofs.Common.{◌≡◌, ℕ, zero, suc, ◌≤◌, Bool, true, false, List, [], ◌∷◌, All, length, refl, inl, inr, arith}
use Rattle.std.proofs.lemmas.Bool.{cases_lt}
use Rattle.spec_history.specs.Searches.{count_below}
use Rattle.spec_history.proofs.Searches.Tests.{count_up}
use Rattle.dependences.specs.Conflict.{AreFalling}
use Rattle.epoch_paths.proofs.Cores.{count_last}

pub count_none : (n : ℕ) (f : ℕ → Bool) → ((k : ℕ) → f k ≡ false) → count_below n f ≡ 0
unfolding count_below
count_none zero f none = refl
count_none (suc n) f none = rw (count_none n f none, none n) refl

-- numbers that fall and pass are no more than those that pass
pub falling_few : (f : ℕ → Bool) (m : ℕ) (list : List ℕ) → AreFalling m list → All (λ k. f k ≡ true) list → length list ≤ count_below m f
falling_few f m [] falling each = omega arith
falling_few f m (k ∷ rest) falling each =
    let few = falling_few f k rest falling.1 (λ j d below. each (suc j) d (omega (arith, below))) in
    let last = count_last k f true (each 0 k (omega arith)) in
    let low = falling.0 in
    let up = count_up (suc k) m f (omega (arith, low)) in omega (arith, few, last, up)

-- past a bound none passes
pub count_past : (m n : ℕ) (f : ℕ → Bool) → ((k : ℕ) → n ≤ k → f k ≡ false) → count_below m f ≤ count_below n f
count_past zero n f none = count_up 0 n f (omega arith)
count_past (suc m) n f none = elim (cases_lt m n) [
  | inl low ↦ count_up (suc m) n f (omega (arith, low))
  | inr past ↦
      (let front = count_past m n f none in
      let last = count_last m f false (none m past) in omega (arith, front, last))
]
