-- Registers to which results go.
use Rattle.std.proofs.Common.{◌≡◌, ℕ, ◌%◌, ◌<◌, ◌≤◌, ◌==◌, Bool, true, false, cond, if◌then◌else◌, refl, arith}
use Rattle.std.proofs.lemmas.Bool.Decides.{nat_tests}

-- x0 has a place after those of the other registers
abbrev pub place_of : ℕ → ℕ
place_of register = if register == 0 then 32 else register

pub place_back : (place : ℕ) → 0 < place → place ≤ 32 → place_of (place % 32) ≡ place
place_back place above most = by_test (place % 32 == 0) refl where
  by_test : (b : Bool) → (place % 32 == 0) ≡ b → cond b 32 (place % 32) ≡ place
  by_test true is = grind (arith, nat_tests)
  by_test false is = grind (arith, nat_tests)
