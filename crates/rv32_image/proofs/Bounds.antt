-- What the limits of each version keep, and what every machine does.
use Rattle.std.proofs.Common.{◌≡◌, ℕ, zero, suc, ◌+◌, ◌*◌, ◌/◌, ◌%◌, ◌<◌, ◌≤◌, true, ◌⊎◌, inl, inr, refl, sym, subst, arith}
use Rattle.std.proofs.Math.Nat.{div-mul-le_self}
use Rattle.std.proofs.lemmas.Bool.Decides.{nat_tests}
use Rattle.std.proofs.lemmas.Nat.{le-div}
use Rattle.rv32_image.specs.declared.version.Version.{Version}
use Rattle.rv32_image.specs.declared.version.Version.TheVariants.{One, Two}
use Rattle.rv32_image.specs.Machine.{is_line_length, IsMachineFor}
use Rattle.rv32_image.specs.Version.{IsSize, limits_of, machine_of}

pub most_few : (version : Version) → (limits_of version).most_cores ≤ 16
most_few One = omega arith
most_few Two = omega arith

-- the machine of a version is one that there is
pub version_machine : (version : Version) (size : ℕ) → IsSize version size → IsMachineFor size (machine_of version)
version_machine One size h =
    record { is = record { line_length = refl; sets = refl; some_way = omega arith; few_ways = omega arith; some_line = omega arith; few_lines = omega arith }; whole_lines = h.lines; apart = λ some is. cc }
version_machine Two size h =
    record { is = record { line_length = refl; sets = refl; some_way = omega arith; few_ways = omega arith; some_line = omega arith; few_lines = omega arith }; whole_lines = h.lines; apart = λ some is. cc }

-- ---- lines of 16, of 32 or of 64 bytes

pub one_length : (length : ℕ) → is_line_length length ≡ true → (length ≡ 16) ⊎ ((length ≡ 32) ⊎ (length ≡ 64))
one_length length h = grind (arith, nat_tests)

-- a fact of lines of each length is one of all lines
pub by_length : (P : ℕ → Type 0) (length : ℕ) → is_line_length length ≡ true → P 16 → P 32 → P 64 → P length
by_length P length h of_16 of_32 of_64 =
    elim (one_length length h) [
      | inl is ↦ subst P (sym is) of_16
      | inr (inl is) ↦ subst P (sym is) of_32
      | inr (inr is) ↦ subst P (sym is) of_64
    ]

-- ---- bytes and the numbers of their lines

pub place_in : (n a : ℕ) → is_line_length n ≡ true → a % n < n
place_in n a h = by_length (λ n. a % n < n) n h (omega arith) (omega arith) (omega arith)

pub number_below : (n a size : ℕ) → is_line_length n ≡ true → a < size → size % n ≡ 0 → a / n < size / n
number_below n a size h =
    by_length (λ n. a < size → size % n ≡ 0 → a / n < size / n) n h
    (λ b w. omega (arith, b, w)) (λ b w. omega (arith, b, w)) (λ b w. omega (arith, b, w))

pub number_up : (n a b : ℕ) → a ≤ b → a / n ≤ b / n
number_up zero a b up = omega arith
number_up (suc n) a b up = let first = div-mul-le_self a (suc n) in le-div (a / suc n) b (suc n) (omega arith) (omega (arith, first, up))

-- the line of a byte that stands in a line of its own behind whole lines of memory
pub behind_line : (n size q r : ℕ) → is_line_length n ≡ true → size % n ≡ 0 → r < n → (size + (q * n + r)) / n ≡ size / n + q
behind_line n size q r h =
    by_length (λ n. size % n ≡ 0 → r < n → (size + (q * n + r)) / n ≡ size / n + q) n h (λ w b. omega arith) (λ w b. omega arith) (λ w b. omega arith)

-- the byte stands at its place in the line of another byte that lies there
pub byte_in_line : (n a b : ℕ) → is_line_length n ≡ true → b / n ≡ a / n → b / n * n + a % n ≡ a
byte_in_line n a b h =
    by_length (λ n. b / n ≡ a / n → b / n * n + a % n ≡ a) n h (λ s. omega (arith, s)) (λ s. omega (arith, s)) (λ s. omega (arith, s))

-- a line by its first byte, and by its number
pub same_number : (n a b : ℕ) → is_line_length n ≡ true → n * (a / n) ≡ n * (b / n) → a / n ≡ b / n
same_number n a b h =
    by_length (λ n. n * (a / n) ≡ n * (b / n) → a / n ≡ b / n) n h (λ s. omega (arith, s)) (λ s. omega (arith, s)) (λ s. omega (arith, s))

-- all bytes of a line lie in memory where one does
pub line_below : (n a b size : ℕ) → is_line_length n ≡ true → a / n ≡ b / n → a < size → size % n ≡ 0 → b < size
line_below n a b size h =
    by_length (λ n. a / n ≡ b / n → a < size → size % n ≡ 0 → b < size) n h
    (λ s b w. omega (arith, s, b, w)) (λ s b w. omega (arith, s, b, w)) (λ s b w. omega (arith, s, b, w))
