-- The bytes that an epoch stores, by blocks of 16 and their bits.
use Rattle.std.proofs.Common.{◌≡◌, ◌≢◌, ◌⊎◌, ℕ, ◌+◌, ◌-◌, ◌/◌, ◌%◌, ◌==◌, ◌<◌, ◌≤◌, ◌^◌, Bool, true, false, cond, length, max, set, slice_index, bit_or, refl, sym, ap, ◌∙◌, inl, inr, arith, get_or-set_same, get_or-set_other, length-set}
use Rattle.std.specs.Int.{bit_at}
use Rattle.std.proofs.lemmas.Bool.{cases_eq}
use Rattle.std.proofs.lemmas.Bool.Decides.{nat_tests}
use Rattle.std.proofs.lemmas.Nat.Bits.{bit_at-lt, bit_at-zero, bit_at_mask_above, bit_at_mask_below, bit_at_mask_inside, bit_at_or}
use Rattle.memory_bytes.specs.Bytes.{IsWidth}
use Rattle.memory_bytes.proofs.SmallFacts.{by_width}
use Rattle.dependences.specs.KeptOwn.{AreOwned, HasStored, OwnBytes, bits_before}

-- an access lies in one block
pub in_block : (address width : ℕ) → IsWidth width → address % width ≡ 0 → address % 16 + width ≤ 16
in_block address width wide = by_width (λ w. address % w ≡ 0 → address % 16 + w ≤ 16) width wide (λ a. omega arith) (λ a. omega (arith, a)) (λ a. omega (arith, a))

one_block : (address width i : ℕ) → address % 16 + width ≤ 16 → i < width → ((address + i) / 16 ≡ address / 16) × ((address + i) % 16 ≡ address % 16 + i)
one_block address width i within low = (omega (arith, within, low), omega (arith, within, low))

-- the bits of a block that another epoch has stored in are of no byte of this one
before_by : (b : Bool) (own : OwnBytes) (epoch block : ℕ) → (slice_index own.by block == epoch + 1) ≡ b → slice_index own.by block ≡ epoch + 1
    → cond b (slice_index own.bits block) 0 ≡ slice_index own.bits block
before_by true own epoch block is same = refl
before_by false own epoch block is same = absurd (grind (arith, nat_tests))

none_by : (b : Bool) (own : OwnBytes) (epoch block i : ℕ) → (slice_index own.by block == epoch + 1) ≡ b → bit_at (cond b (slice_index own.bits block) 0) i ≡ 1
    → (slice_index own.by block ≡ epoch + 1) × (bit_at (slice_index own.bits block) i ≡ 1)
none_by true own epoch block i is one = (grind (arith, nat_tests), one)
none_by false own epoch block i is one = let zero = bit_at-zero i in absurd (omega (arith, zero, one))

module _ (old new : OwnBytes) (epoch address width : ℕ) (wide : IsWidth width) (aligned : address % width ≡ 0) (by_there : address / 16 < length old.by) (bits_there : address / 16 < length old.bits)
    (by : new.by ≡ set old.by (address / 16) (epoch + 1))
    (bits : new.bits ≡ set old.bits (address / 16) (bit_or (bits_before old epoch (address / 16)) (2 ^ (address % 16 + width) - 2 ^ (address % 16)))) where
  abbrev block : ℕ
  block = address / 16

  abbrev mask : ℕ
  mask = 2 ^ (address % 16 + width) - 2 ^ (address % 16)

  abbrev before : ℕ
  before = bits_before old epoch block

  by_here : slice_index new.by block ≡ epoch + 1
  by_here = ap (λ l. slice_index l block) by ∙ get_or-set_same old.by block (epoch + 1) 0 by_there

  by_other : (b : ℕ) → b ≢ block → slice_index new.by b ≡ slice_index old.by b
  by_other b other = ap (λ l. slice_index l b) by ∙ get_or-set_other old.by block b (epoch + 1) 0 other

  bits_here : (i : ℕ) → bit_at (slice_index new.bits block) i ≡ max (bit_at before i) (bit_at mask i)
  bits_here i = ap (λ n. bit_at n i) (ap (λ l. slice_index l block) bits ∙ get_or-set_same old.bits block (bit_or before mask) 0 bits_there) ∙ bit_at_or before mask i

  bits_other : (b : ℕ) → b ≢ block → slice_index new.bits b ≡ slice_index old.bits b
  bits_other b other = ap (λ l. slice_index l b) bits ∙ get_or-set_other old.bits block b (bit_or before mask) 0 other

  here : (i : ℕ) → i < width → HasStored new epoch (address + i)
  here i low =
      let within = in_block address width wide aligned in
      let there = one_block address width i within low in
      let inside = bit_at_mask_inside (address % 16) (address % 16 + width) (address % 16 + i) (omega arith) (omega (arith, low)) in
      let bit = bits_here (address % 16 + i) in
      let small = bit_at-lt before (address % 16 + i) in
      rw (there.0, there.1) (by_here, omega (arith, bit, inside, small))

  still : (a : ℕ) → HasStored old epoch a → HasStored new epoch a
  still a was = elim (cases_eq (a / 16) block) [
    | inl same ↦
        (let owner : slice_index old.by block ≡ epoch + 1 = sym (ap (slice_index old.by) same) ∙ was.0 in
        let kept : before ≡ slice_index old.bits block = before_by (slice_index old.by block == epoch + 1) old epoch block refl owner in
        let old_bit : bit_at before (a % 16) ≡ 1 = ap (λ n. bit_at n (a % 16)) (kept ∙ sym (ap (slice_index old.bits) same)) ∙ was.1 in
        let bit = bits_here (a % 16) in
        let small = bit_at-lt mask (a % 16) in
        (ap (slice_index new.by) same ∙ by_here, ap (λ b. bit_at (slice_index new.bits b) (a % 16)) same ∙ omega (arith, bit, old_bit, small)))
    | inr other ↦ (by_other (a / 16) other ∙ was.0, ap (λ n. bit_at n (a % 16)) (bits_other (a / 16) other) ∙ was.1)
  ]

  no_bit : (a : ℕ) → a / 16 ≡ block → (a < address) ⊎ (address + width ≤ a) → bit_at mask (a % 16) ≡ 0
  no_bit a same (inl below) = bit_at_mask_below (address % 16) (address % 16 + width) (a % 16) (omega (arith, same, below))
  no_bit a same (inr above) = bit_at_mask_above (address % 16) (address % 16 + width) (a % 16) (omega (arith, same, above))

  others : (a : ℕ) → (a < address) ⊎ (address + width ≤ a) → HasStored new epoch a → HasStored old epoch a
  others a outside now = elim (cases_eq (a / 16) block) [
    | inl same ↦
        (let none = no_bit a same outside in
        let bit = bits_here (a % 16) in
        let new_bit : bit_at (slice_index new.bits block) (a % 16) ≡ 1 = sym (ap (λ b. bit_at (slice_index new.bits b) (a % 16)) same) ∙ now.1 in
        let old_bit : bit_at before (a % 16) ≡ 1 = omega (arith, none, bit, new_bit) in
        let was = none_by (slice_index old.by block == epoch + 1) old epoch block (a % 16) refl old_bit in
        (ap (slice_index old.by) same ∙ was.0, ap (λ b. bit_at (slice_index old.bits b) (a % 16)) same ∙ was.1))
    | inr other ↦ (sym (by_other (a / 16) other) ∙ now.0, sym (ap (λ n. bit_at n (a % 16)) (bits_other (a / 16) other)) ∙ now.1)
  ]

  by_each : (b : ℕ) → (slice_index new.by b ≡ slice_index old.by b) ⊎ (slice_index new.by b ≡ epoch + 1)
  by_each b = elim (cases_eq b block) [
    | inl same ↦ inr (ap (slice_index new.by) same ∙ by_here)
    | inr other ↦ inl (by_other b other)
  ]

  pub are_owned : AreOwned old new epoch address width
  are_owned = record {
    by_long = ap length by ∙ length-set old.by block (epoch + 1);
    bits_long = ap length bits ∙ length-set old.bits block (bit_or before mask);
    here = here;
    still = still;
    others = others;
    by = by_each;
  }
