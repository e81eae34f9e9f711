-- Bytes over memory, and the bytes that a load or a store names.
use Rattle.std.proofs.Common.{◌≡◌, ◌≢◌, ℕ, zero, suc, ◌+◌, ◌-◌, ◌<◌, ◌≤◌, ◌&&◌, true, false, cond, nat_le, nat_lt, List, length, set, slice_index, Option, Some, None, unwrap_or, refl, sym, ap, ◌∙◌, inl, inr, arith, length-set, get_or-set_same, get_or-set_other}
use Rattle.std.proofs.lemmas.Bool.{cases_eq, cases_lt}
use Rattle.std.proofs.lemmas.Bool.Decides.{nat_tests}
use Rattle.memory_bytes.specs.Bytes.{byte_of, number_at, with_number}
use Rattle.memory_bytes.specs.Maps.{first_of, joined, over, stored}

first_over : (first second : Option ℕ) (byte : ℕ) → unwrap_or (first_of first second) byte ≡ unwrap_or first (unwrap_or second byte)
first_over None second byte = refl
first_over (Some b) second byte = refl

pub over-joined : (first second : ℕ → Option ℕ) (memory : ℕ → ℕ) (a : ℕ) → over (joined first second) memory a ≡ over first (over second memory) a
over-joined first second memory a = first_over (first a) (second a) (memory a)

-- a number depends on its own bytes
pub number_at_same : (f g : ℕ → ℕ) (address width : ℕ) → ((a : ℕ) → address ≤ a → a < address + width → f a ≡ g a)
    → number_at f address width ≡ number_at g address width
unfolding number_at
number_at_same f g address zero same = refl
number_at_same f g address (suc width) same =
    let here : f address ≡ g address = same address (omega arith) (omega arith) in
    let rest = number_at_same f g (address + 1) width (λ a low high. same a (omega arith) (omega arith)) in cc

-- ---- the bytes of a store

pub within_test : (address width a : ℕ) → address ≤ a → a < address + width → (nat_le address a && nat_lt a (address + width)) ≡ true
within_test address width a low high = grind (arith, nat_tests)

below_test : (address width a : ℕ) → a < address → (nat_le address a && nat_lt a (address + width)) ≡ false
below_test address width a below = grind (arith, nat_tests)

past_test : (address width a : ℕ) → address + width ≤ a → (nat_le address a && nat_lt a (address + width)) ≡ false
past_test address width a past = grind (arith, nat_tests)

pub stored_within : (address width value a : ℕ) → address ≤ a → a < address + width → stored address width value a ≡ Some (byte_of value (a - address))
unfolding stored
stored_within address width value a low high = rw (within_test address width a low high) refl

pub stored_below : (address width value a : ℕ) → a < address → stored address width value a ≡ None
unfolding stored
stored_below address width value a below = rw (below_test address width a below) refl

pub stored_past : (address width value a : ℕ) → address + width ≤ a → stored address width value a ≡ None
unfolding stored
stored_past address width value a past = rw (past_test address width a past) refl

pub stored_at : (address width value i : ℕ) → i < width → stored address width value (address + i) ≡ Some (byte_of value i)
stored_at address width value i more =
    let offset : address + i - address ≡ i = omega arith in
    stored_within address width value (address + i) (omega arith) (omega arith) ∙ ap (λ n. Some (byte_of value n)) offset

-- a store of one byte more
pub stored_other : (address width value a : ℕ) → a ≢ address + width → stored address (width + 1) value a ≡ stored address width value a
unfolding stored
stored_other address width value a other =
    let same : (nat_le address a && nat_lt a (address + (width + 1))) ≡ (nat_le address a && nat_lt a (address + width)) = grind (arith, nat_tests) in
    ap (λ b. cond b (Some (byte_of value (a - address))) None) same

pub length-with_number : (memory : List ℕ) (address width value : ℕ) → length (with_number memory address width value) ≡ length memory
unfolding with_number
length-with_number memory address zero value = refl
length-with_number memory address (suc width) value =
    length-set (with_number memory address width value) (address + width) (byte_of value width) ∙ length-with_number memory address width value

none_stored : (memory : List ℕ) (address value a : ℕ) → slice_index memory a ≡ over (stored address 0 value) (λ b. slice_index memory b) a
none_stored memory address value a =
    sym (ap (λ o. unwrap_or o (slice_index memory a)) (elim (cases_lt a address) [
      | inl below ↦ stored_below address 0 value a below
      | inr from ↦ stored_past address 0 value a (omega arith)
    ]))

-- the bytes after a store within memory
pub with_number_bytes : (memory : List ℕ) (address width value : ℕ) → address + width ≤ length memory
    → (a : ℕ) → slice_index (with_number memory address width value) a ≡ over (stored address width value) (λ b. slice_index memory b) a
unfolding with_number
with_number_bytes memory address zero value within a = none_stored memory address value a
with_number_bytes memory address (suc width) value within a =
    let before = with_number memory address width value in
    let long : length before ≡ length memory = length-with_number memory address width value in
    let more : suc width ≡ width + 1 = omega arith in
    elim (cases_eq a (address + width)) [
      | inl e ↦ ap (λ b. slice_index (set before (address + width) (byte_of value width)) b) e
          ∙ (get_or-set_same before (address + width) (byte_of value width) 0 (omega (arith, long))
          ∙ sym (ap (over (stored address (suc width) value) (λ b. slice_index memory b)) e
          ∙ ap (λ o. unwrap_or o (slice_index memory (address + width))) (stored_at address (suc width) value width (omega arith))))
      | inr other ↦ get_or-set_other before (address + width) a (byte_of value width) 0 other
          ∙ (with_number_bytes memory address width value (omega arith) a
          ∙ sym (ap (λ n. over (stored address n value) (λ b. slice_index memory b) a) more
          ∙ ap (λ o. unwrap_or o (slice_index memory a)) (stored_other address width value a other)))
    ]
