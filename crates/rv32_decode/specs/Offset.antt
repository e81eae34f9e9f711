-- Offsets of branches and jumps.
use Rattle.std.proofs.Common.{◌≡◌, ℕ, ◌+◌, ◌-◌, ◌*◌, ◌/◌, ◌%◌, ◌^◌, ◌<◌, ◌==◌, nat_lt, Bool, true, false, cond, if◌then◌else◌, refl, arith}
use Rattle.std.proofs.lemmas.Bool.Decides.{nat_tests}

-- the words of so many bytes, of 32 bits with a sign; what is no whole words is farther by 2^30
abbrev pub words_of : ℕ → ℕ
words_of bytes = (bytes / 4 + (if nat_lt bytes (2 ^ 31) then 0 else 3 * 2 ^ 30) + (if bytes % 4 == 0 then 0 else 2 ^ 30)) % 2 ^ 32

-- the same of 64 bits
abbrev pub words_on : ℕ → ℕ
words_on bytes = (bytes / 4 + (if nat_lt bytes (2 ^ 31) then 0 else 2 ^ 64 - 2 ^ 30) + (if bytes % 4 == 0 then 0 else 2 ^ 30)) % 2 ^ 64

abbrev pub bytes_of : ℕ → ℕ
bytes_of words = (4 * words) % 2 ^ 32 + (if nat_lt ((words + 2 ^ 29) % 2 ^ 32) (2 ^ 30) then 0 else 2)

-- they are those of 32 bits
pub record AreWords (words : ℕ) : Type 0 where
  pub bits : words < 2 ^ 32
  pub near : (words + 2 ^ 29) % 2 ^ 32 < 2 ^ 31

back_by : (words bytes : ℕ) (near forward whole : Bool) → AreWords words → nat_lt ((words + 2 ^ 29) % 2 ^ 32) (2 ^ 30) ≡ near → bytes ≡ (4 * words) % 2 ^ 32 + cond near 0 2
    → nat_lt bytes (2 ^ 31) ≡ forward → (bytes % 4 == 0) ≡ whole → (bytes / 4 + cond forward 0 (3 * 2 ^ 30) + cond whole 0 (2 ^ 30)) % 2 ^ 32 ≡ words
back_by words bytes true true true are is so front even = grind (arith, nat_tests, are.bits, are.near)
back_by words bytes true true false are is so front even = grind (arith, nat_tests, are.bits, are.near)
back_by words bytes true false true are is so front even = grind (arith, nat_tests, are.bits, are.near)
back_by words bytes true false false are is so front even = grind (arith, nat_tests, are.bits, are.near)
back_by words bytes false true true are is so front even = grind (arith, nat_tests, are.bits, are.near)
back_by words bytes false true false are is so front even = grind (arith, nat_tests, are.bits, are.near)
back_by words bytes false false true are is so front even = grind (arith, nat_tests, are.bits, are.near)
back_by words bytes false false false are is so front even = grind (arith, nat_tests, are.bits, are.near)

pub words_back : (words : ℕ) → AreWords words → words_of (bytes_of words) ≡ words
words_back words are = back_by words (bytes_of words) (nat_lt ((words + 2 ^ 29) % 2 ^ 32) (2 ^ 30)) _ _ are refl refl refl refl
