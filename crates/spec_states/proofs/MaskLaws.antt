-- Laws of the mask of modified bytes.
use Rattle.std.proofs.Common.{◌≡◌, ◌≢◌, ℕ, zero, suc, ◌+◌, ◌-◌, ◌*◌, ◌%◌, ◌^◌, ◌<◌, ◌≤◌, inl, inr, ◌==◌, ◌||◌, Bool, true, false, ◌∙◌, max, min, ap, refl, sym, arith}
use lib.Bits.{bit_and}
use Rattle.std.proofs.lemmas.Bool.{cases_eq, cases_lt, and_from, and_parts, eq-eqb, ne_eqb, or_parts, or_right}
use Rattle.std.proofs.lemmas.Bool.Decides.{nat_tests}
use Rattle.std.proofs.lemmas.Nat.Bits.{bit_at_or, bit_at_and, bit_at-zero, bit_at-lt, bit_at_mask_inside, bit_at_mask_below, bit_at_mask_above, same_from_bits}
use Rattle.std.proofs.lemmas.Nat.{or_lt, pow-add, pow_pos}
use Rattle.std.proofs.Math.Nat.{mul-sub, mul_comm, mul-one, one-mul}
use Rattle.std.proofs.Math.Pow.{pow_mono, shl_exact}
use Rattle.std.specs.Int.{bit_at}
use Rattle.memory_bytes.specs.Bytes.{IsWidth}
use Rattle.spec_states.specs.Mask.{has, has_all, with_bytes, is_within, IsWithinLine}

-- a byte of the mask by its bit
has-bit : (bytes x : ℕ) → has bytes x ≡ (bit_at bytes x == 1)
unfolding has
has-bit bytes x = refl

-- the empty mask has no byte
pub has-zero : (x : ℕ) → has 0 x ≡ false
unfolding has
has-zero x = rw bit_at-zero refl

-- a mask that has a byte is not empty
pub has-nonzero : (bytes x : ℕ) → has bytes x ≡ true → bytes ≢ 0
has-nonzero bytes x h e = cc (has-zero x)

-- ---- the bytes of an access

-- an access has at least one byte, and at most four
pub width-bounds : (width : ℕ) → IsWidth width → (0 < width) × (width ≤ 4)
width-bounds width widths =
    elim widths [
      | inl one ↦ (omega arith, omega arith)
      | inr rest ↦ elim rest [ inl two ↦ (omega arith, omega arith) | inr four ↦ (omega arith, omega arith) ]
    ]

-- an aligned access to a line, whose length is a multiple of 4, lies in it
pub access-within : (offset width length : ℕ) → IsWidth width → offset % width ≡ 0 → offset < length → length % 4 ≡ 0
    → offset + width ≤ length
access-within offset width length widths aligned inside line =
    elim widths [
      | inl one ↦ omega arith
      | inr rest ↦
          elim rest [
            | inl two ↦ let even : offset % 2 ≡ 0 = rw two at aligned in omega arith
            | inr four ↦ let even : offset % 4 ≡ 0 = rw four at aligned in omega arith
          ]
    ]

-- the first byte of an access is one of its bytes
pub is_within-first : (offset width : ℕ) → 0 < width → is_within offset width offset ≡ true
is_within-first offset width some = grind (arith, nat_tests)

-- a byte of the rest of an access, behind its first byte, is one of its bytes
pub is_within-later : (offset n x : ℕ) → is_within (offset + 1) n x ≡ true → is_within offset (suc n) x ≡ true
is_within-later offset n x e = grind (arith, nat_tests)

-- ---- the mask after a store

-- the test of the greater of two bits, where p says what the second is
max_test : (m a b : ℕ) (p : Bool) → m ≡ max a b → a < 2 → (p ≡ true → b ≡ 1) → (p ≡ false → b ≡ 0)
    → (m == 1) ≡ ((a == 1) || p)
max_test m a b true m_is a_bit inside outside = let one : b ≡ 1 = inside refl in grind (arith, nat_tests)
max_test m a b false m_is a_bit inside outside = let none : b ≡ 0 = outside refl in grind (arith, nat_tests)

span-inside : (offset width x : ℕ) → is_within offset width x ≡ true → bit_at (2 ^ (offset + width) - 2 ^ offset) x ≡ 1
span-inside offset width x within =
    let low : offset ≤ x = grind (arith, nat_tests) in
    let high : x < offset + width = grind (arith, nat_tests) in
    bit_at_mask_inside offset (offset + width) x low high

span-outside : (offset width x : ℕ) → is_within offset width x ≡ false → bit_at (2 ^ (offset + width) - 2 ^ offset) x ≡ 0
span-outside offset width x out =
    elim (cases_lt x offset) [
      | inl below ↦ bit_at_mask_below offset (offset + width) x below
      | inr from ↦
          let past : offset + width ≤ x = grind (arith, nat_tests) in
          bit_at_mask_above offset (offset + width) x past
    ]

-- the bytes of a store are in the mask, and the others are there as before
pub has-with_bytes : (bytes offset width x : ℕ)
    → has (with_bytes bytes offset width) x ≡ (has bytes x || is_within offset width x)
unfolding has with_bytes
has-with_bytes bytes offset width x =
    max_test _ _ _ _ (bit_at_or bytes (2 ^ (offset + width) - 2 ^ offset) x) (bit_at-lt bytes x)
    (span-inside offset width x) (span-outside offset width x)

-- a store's own bytes are in the mask
pub has-stored : (bytes offset width x : ℕ) → is_within offset width x ≡ true → has (with_bytes bytes offset width) x ≡ true
has-stored bytes offset width x within = has-with_bytes bytes offset width x ∙ or_right (has bytes x) (is_within offset width x) within

-- a byte outside the mask after a store was outside it before
pub has-before : (bytes offset width x : ℕ) → has (with_bytes bytes offset width) x ≡ false → has bytes x ≡ false
has-before bytes offset width x out = (or_parts (has bytes x) (is_within offset width x) (sym (has-with_bytes bytes offset width x) ∙ out)).0

-- the mask after a store is not empty
pub with_bytes-nonzero : (bytes offset width : ℕ) → 0 < width → with_bytes bytes offset width ≢ 0
with_bytes-nonzero bytes offset width some =
    has-nonzero (with_bytes bytes offset width) offset (has-stored bytes offset width offset (is_within-first offset width some))

-- a store within a line keeps the mask within it
pub with_bytes-within : (length bytes offset width : ℕ) → IsWithinLine length bytes → offset + width ≤ length
    → IsWithinLine length (with_bytes bytes offset width)
unfolding with_bytes
with_bytes-within length bytes offset width within inside =
    let top : 2 ^ (offset + width) ≤ 2 ^ length = pow_mono inside in
    let some : 0 < 2 ^ offset = pow_pos offset in
    let whole : 0 < 2 ^ (offset + width) = pow_pos (offset + width) in
    or_lt length bytes (2 ^ (offset + width) - 2 ^ offset) within (omega arith)

-- ---- the test of an access

-- each byte of the access is in a mask that has them all
pub has_all-true : (bytes offset width x : ℕ) → has_all bytes offset width ≡ true → is_within offset width x ≡ true
    → has bytes x ≡ true
unfolding has_all
has_all-true bytes offset zero x all within = absurd (none within)
  where
    none : is_within offset zero x ≡ true → ⊥
    none e = grind (arith, nat_tests)
has_all-true bytes offset (suc n) x all within =
    elim (cases_eq x offset) [
      | inl e ↦ rw e (and_parts (has bytes offset) _ all).0
      | inr ne ↦ has_all-true bytes (offset + 1) n x (and_parts (has bytes offset) _ all).1 (later within ne)
    ]
  where
    later : is_within offset (suc n) x ≡ true → x ≢ offset → is_within (offset + 1) n x ≡ true
    later e ne = grind (arith, nat_tests)

-- a mask that has each byte of the access has them all
pub has_all-from : (bytes offset width : ℕ) → ((x : ℕ) → is_within offset width x ≡ true → has bytes x ≡ true)
    → has_all bytes offset width ≡ true
unfolding has_all
has_all-from bytes offset zero each = refl
has_all-from bytes offset (suc n) each =
    and_from (has bytes offset) _ (each offset first) (has_all-from bytes (offset + 1) n (λ x e. each x (is_within-later offset n x e)))
  where
    first : is_within offset (suc n) offset ≡ true
    first = grind (arith, nat_tests)

-- a byte of the access that is not in the mask: the mask does not have them all
pub has_all-false : (bytes offset width x : ℕ) → is_within offset width x ≡ true → has bytes x ≡ false
    → has_all bytes offset width ≡ false
has_all-false bytes offset width x within out =
    elim (has_all bytes offset width) as (λ b. has_all bytes offset width ≡ b → b ≡ false) [
      | true ↦ λ e. let inside : has bytes x ≡ true = has_all-true bytes offset width x e within in cc
      | false ↦ λ e. refl
    ] refl

-- ---- the mask in the code

-- `width` ones, shifted to the offset
pub span_is : (offset width : ℕ) → (2 ^ width - 1) * 2 ^ offset ≡ 2 ^ (offset + width) - 2 ^ offset
span_is offset width = rw pow-add (shifted (2 ^ width) (2 ^ offset))
  where
    shifted : (a b : ℕ) → (a - 1) * b ≡ b * a - b
    shifted a b = mul_comm (a - 1) b ∙ (mul-sub b a 1 ∙ ap (λ n. b * a - n) (mul-one b))

-- the same in a word of 64 bits
pub span-in_word : (offset width : ℕ) → width ≤ 4 → offset + width ≤ 64
    → (1 * 2 ^ width % 2 ^ 64 - 1) * 2 ^ offset % 2 ^ 64 ≡ 2 ^ (offset + width) - 2 ^ offset
span-in_word offset width few inside =
    let one : 1 * 2 ^ width % 2 ^ 64 ≡ 2 ^ width = shl_exact 1 width 64 (omega arith) (omega arith) ∙ one-mul (2 ^ width) in
    let some : 0 < 2 ^ width = pow_pos width in
    rw one (shl_exact width offset 64 (omega arith) (omega arith) ∙ span_is offset width)

-- the bytes that a mask has of those of an access, and of the others
and_inside : (a m s : ℕ) → m ≡ min a s → s ≡ 1 → (a == 1) ≡ true → m ≡ s
and_inside a m s e f g = grind (arith, nat_tests)

and_outside : (a m s : ℕ) → m ≡ min a s → s ≡ 0 → m ≡ s
and_outside a m s e f = omega arith

bit_inside : (a m s : ℕ) → m ≡ min a s → m ≡ s → s ≡ 1 → a < 2 → (a == 1) ≡ true
bit_inside a m s e same f lt = grind (arith, nat_tests)

-- the mask has all bytes of the access: what it has of them is the access's own mask
and_all : (bytes offset width : ℕ) → has_all bytes offset width ≡ true
    → bit_and bytes (2 ^ (offset + width) - 2 ^ offset) ≡ 2 ^ (offset + width) - 2 ^ offset
and_all bytes offset width all =
    same_from_bits _ _
    (λ i. elim (is_within offset width i) as (λ b. is_within offset width i ≡ b → bit_at (bit_and bytes (2 ^ (offset + width) - 2 ^ offset)) i ≡ bit_at (2 ^ (offset + width) - 2 ^ offset) i) [
      | true ↦ λ e. and_inside _ _ _ (bit_at_and bytes (2 ^ (offset + width) - 2 ^ offset) i) (span-inside offset width i e) (sym (has-bit bytes i) ∙ has_all-true bytes offset width i all e)
      | false ↦ λ e. and_outside _ _ _ (bit_at_and bytes (2 ^ (offset + width) - 2 ^ offset) i) (span-outside offset width i e)
    ] refl)

all_and : (bytes offset width : ℕ)
    → bit_and bytes (2 ^ (offset + width) - 2 ^ offset) ≡ 2 ^ (offset + width) - 2 ^ offset
    → has_all bytes offset width ≡ true
all_and bytes offset width same =
    has_all-from bytes offset width
    (λ x e. has-bit bytes x ∙ bit_inside _ _ _ (bit_at_and bytes (2 ^ (offset + width) - 2 ^ offset) x) (ap (λ n. bit_at n x) same) (span-inside offset width x e) (bit_at-lt bytes x))

-- the test of an access by its mask
pub has_all-and : (bytes offset width : ℕ)
    → (bit_and bytes (2 ^ (offset + width) - 2 ^ offset) == (2 ^ (offset + width) - 2 ^ offset)) ≡ has_all bytes offset width
has_all-and bytes offset width =
    elim (has_all bytes offset width) as (λ b. has_all bytes offset width ≡ b → (bit_and bytes (2 ^ (offset + width) - 2 ^ offset) == (2 ^ (offset + width) - 2 ^ offset)) ≡ b) [
      | true ↦ λ e. eq-eqb _ _ (and_all bytes offset width e)
      | false ↦ λ e. ne_eqb _ _ (λ q. let all : has_all bytes offset width ≡ true = all_and bytes offset width q in cc)
    ] refl
