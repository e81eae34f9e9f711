-- The addresses of lines, and the bytes of a line of memory.
use Rattle.std.proofs.Common.{◌≡◌, ℕ, ◌+◌, ◌-◌, ◌%◌, ◌<◌, ◌≤◌, ◌==◌, ◌⊎◌, inl, inr, nat_lt, true, false, cond, refl, sym, subst, arith}
use Rattle.std.proofs.lemmas.Bool.{eq-eqb}
use Rattle.std.proofs.lemmas.Bool.Decides.{nat_tests}
use Rattle.spec_states.specs.Mask.{is_within}
use Rattle.rv32_image.specs.Machine.{is_line_length}
use Rattle.rv32_image.proofs.Bounds.{by_length}
use Rattle.bus_states.specs.Bus.{line_of, offset_of, memory_line}
use Rattle.bus_states.specs.Messages.{with_line}

pub line-aligned : (length addr : ℕ) → is_line_length length ≡ true → line_of length addr % length ≡ 0
line-aligned length addr h = by_length (λ (n : ℕ). line_of n addr % n ≡ 0) length h (omega arith) (omega arith) (omega arith)

pub line-and_offset : (length addr : ℕ) → is_line_length length ≡ true → line_of length addr + offset_of length addr ≡ addr
line-and_offset length addr h =
    by_length (λ (n : ℕ). line_of n addr + offset_of n addr ≡ addr) length h (omega arith) (omega arith) (omega arith)

pub offset-in_line : (length addr : ℕ) → is_line_length length ≡ true → offset_of length addr < length
offset-in_line length addr h = by_length (λ (n : ℕ). offset_of n addr < n) length h (omega arith) (omega arith) (omega arith)

-- a byte of the line at `addr`
pub line-of : (length addr x : ℕ) → is_line_length length ≡ true → addr % length ≡ 0 → x < length → line_of length (addr + x) ≡ addr
line-of length addr x h =
    by_length (λ (n : ℕ). addr % n ≡ 0 → x < n → line_of n (addr + x) ≡ addr) length h (λ a l. omega arith) (λ a l. omega arith) (λ a l. omega arith)

pub offset-of : (length addr x : ℕ) → is_line_length length ≡ true → addr % length ≡ 0 → x < length → offset_of length (addr + x) ≡ x
offset-of length addr x h =
    by_length (λ (n : ℕ). addr % n ≡ 0 → x < n → offset_of n (addr + x) ≡ x) length h (λ a l. omega arith) (λ a l. omega arith) (λ a l. omega arith)

-- a line of memory that lies below the end
pub line-inside : (length size addr : ℕ) → is_line_length length ≡ true → size % length ≡ 0 → addr < size
    → line_of length addr + length ≤ size
line-inside length size addr h =
    by_length (λ (n : ℕ). size % n ≡ 0 → addr < size → line_of n addr + n ≤ size) length h (λ a l. omega arith) (λ a l. omega arith) (λ a l. omega arith)

-- an access does not cross the end of its line: the offset is aligned too
pub offset-aligned : (length addr width : ℕ) → is_line_length length ≡ true → (width ≡ 1) ⊎ (width ≡ 2) ⊎ (width ≡ 4)
    → addr % width ≡ 0 → offset_of length addr % width ≡ 0
offset-aligned length addr width h widths aligned =
    elim widths [
      | inl one ↦ rw one (by_length (λ (n : ℕ). offset_of n addr % 1 ≡ 0) length h (omega arith) (omega arith) (omega arith))
      | inr rest ↦ elim rest [
        | inl two ↦
            let even : addr % 2 ≡ 0 = rw two at aligned in
            rw two (by_length (λ (n : ℕ). offset_of n addr % 2 ≡ 0) length h (omega arith) (omega arith) (omega arith))
        | inr four ↦
            let fourth : addr % 4 ≡ 0 = rw four at aligned in
            rw four (by_length (λ (n : ℕ). offset_of n addr % 4 ≡ 0) length h (omega arith) (omega arith) (omega arith))
      ]
    ]

-- ---- the lines of a memory

-- a byte of a line at `a` lies in the line at `addr` just where these are one
same_line : (length addr a x : ℕ) → is_line_length length ≡ true → addr % length ≡ 0 → a % length ≡ 0 → x < length
    → is_within addr length (a + x) ≡ (addr == a)
same_line length addr a x h =
    by_length (λ (n : ℕ). addr % n ≡ 0 → a % n ≡ 0 → x < n → is_within addr n (a + x) ≡ (addr == a)) length h
    (λ p q l. grind (arith, nat_tests)) (λ p q l. grind (arith, nat_tests)) (λ p q l. grind (arith, nat_tests))

pub memory_line-past : (length : ℕ) (memory : ℕ → ℕ) (a x : ℕ) → length ≤ x → memory_line length memory a x ≡ 0
memory_line-past length memory a x le = let out : nat_lt x length ≡ false = grind (arith, nat_tests) in rw out refl

-- the line that was put into memory
pub with_line-here : (length addr : ℕ) (line memory : ℕ → ℕ) → is_line_length length ≡ true → addr % length ≡ 0
    → ((x : ℕ) → length ≤ x → line x ≡ 0) → (x : ℕ) → memory_line length (with_line length addr line memory) addr x ≡ line x
with_line-here length addr line memory h aligned past x =
    elim (nat_lt x length) as (λ b. nat_lt x length ≡ b → cond b (with_line length addr line memory (addr + x)) 0 ≡ line x) [
      | true ↦ λ e.
          let lt : x < length = grind (arith, nat_tests) in
          let at : addr + x - addr ≡ x = omega arith in
          rw (same_line length addr addr x h aligned aligned lt, eq-eqb addr addr refl, at) refl
      | false ↦ λ e. let le : length ≤ x = grind (arith, nat_tests) in sym (past x le)
    ] refl

-- another line stays
pub with_line-elsewhere : (length addr a : ℕ) (line memory : ℕ → ℕ) → is_line_length length ≡ true → addr % length ≡ 0
    → a % length ≡ 0 → (addr == a) ≡ false → (x : ℕ)
    → memory_line length (with_line length addr line memory) a x ≡ memory_line length memory a x
with_line-elsewhere length addr a line memory h aligned aligned2 apart x =
    elim (nat_lt x length) as (λ b. nat_lt x length ≡ b → cond b (with_line length addr line memory (a + x)) 0 ≡ cond b (memory (a + x)) 0) [
      | true ↦ λ e.
          let lt : x < length = grind (arith, nat_tests) in
          rw (same_line length addr a x h aligned aligned2 lt, apart) refl
      | false ↦ λ e. refl
    ] refl
