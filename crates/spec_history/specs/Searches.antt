-- Numbers below another that pass a test: the least, the greatest, and how many.
use Rattle.std.specs.Prelude.{◌≡◌, ℕ, zero, suc, ◌+◌, ◌<◌, ◌≤◌, Bool, true, false, Option, Some, None, if◌then◌else◌}
use Rattle.std.specs.Option.{option_or}

unfoldable pub first_below : ℕ → (ℕ → Bool) → Option ℕ
first_below zero test = None
first_below (suc n) test = option_or (first_below n test) (if test n then Some n else None)

unfoldable pub last_below : ℕ → (ℕ → Bool) → Option ℕ
last_below zero test = None
last_below (suc n) test = if test n then Some n else last_below n test

unfoldable pub count_below : ℕ → (ℕ → Bool) → ℕ
count_below zero test = 0
count_below (suc n) test = count_below n test + (if test n then 1 else 0)

-- the least number from one on, and below another, that passes; that other, where there is none
pub record IsNext (test : ℕ → Bool) (from end found : ℕ) : Type 0 where
  pub most : found ≤ end
  pub passes : found < end → (from ≤ found) × (test found ≡ true)
  pub first : (k : ℕ) → from ≤ k → k < found → test k ≡ false
