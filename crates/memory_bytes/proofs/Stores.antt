-- The bytes of an access, one after another.
use Rattle.std.proofs.Common.{◌≡◌, ◌≢◌, ◌⊎◌, ℕ, ◌+◌, ◌*◌, ◌/◌, ◌%◌, ◌^◌, ◌<◌, ◌≤◌, ◌&&◌, false, nat_le, nat_lt, List, length, set, slice_index, Option, Some, None, refl, sym, ap, ◌∙◌, inl, inr, arith, get_or-set_same, get_or-set_other}
use Rattle.std.proofs.Math.Nat.{div-one, div-div-eq-div-mul}
use Rattle.std.proofs.lemmas.Nat.{pow-add}
use Rattle.std.proofs.lemmas.Bool.{cases_eq, cases_lt}
use Rattle.std.proofs.lemmas.Bool.Decides.{nat_tests}
use Rattle.memory_bytes.specs.Maps.{first_of, joined, over, stored, read_outside}
use Rattle.memory_bytes.specs.Shadow.{byte_in}
use Rattle.memory_bytes.proofs.Bytes.{stored_at, stored_below, stored_past}

-- ---- stores

-- the bytes from byte i on are still to come
pub record Storing (address width value i rest : ℕ) : Type 0 where
  pub left : rest ≡ value / 2 ^ (8 * i)

pub storing_start : (address width value : ℕ) → Storing address width value 0 value
storing_start address width value = record { left = sym (div-one value) }

pub storing_byte : (address width value i rest : ℕ) → Storing address width value i rest → i < width → stored address width value (address + i) ≡ Some (rest % 256)
storing_byte address width value i rest storing more =
    stored_at address width value i more ∙ sym (ap (λ n. Some (n % 256)) storing.left)

pub storing_more : (address width value i rest : ℕ) → Storing address width value i rest → i < width → Storing address width value (i + 1) (rest / 256)
storing_more address width value i rest storing more =
    let next : 8 * (i + 1) ≡ 8 * i + 8 = omega arith in
    record {
      left = ap (λ n. n / 256) storing.left ∙ (div-div-eq-div-mul value (2 ^ (8 * i)) 256
          ∙ sym (ap (λ n. value / 2 ^ n) next ∙ ap (λ n. value / n) (pow-add 2 (8 * i) 8)));
    }

pub storing_end : (address width value rest : ℕ) → Storing address width value width rest → (a : ℕ) → address + width ≤ a → stored address width value a ≡ None
storing_end address width value rest storing a from = stored_past address width value a from

-- so far the bytes are kept, and further on they are as they were
pub record Keeping (before : ℕ → Option ℕ) (address width value i : ℕ) (cells : List (Option ℕ)) : Type 0 where
  pub front : (a : ℕ) → a < address + i → byte_in cells a ≡ joined (stored address width value) before a
  pub rest : (a : ℕ) → address + i ≤ a → byte_in cells a ≡ before a

pub keeping_start : (cells : List (Option ℕ)) (address width value : ℕ) → Keeping (byte_in cells) address width value 0 cells
keeping_start cells address width value = record {
  front = λ a below. sym (ap (λ o. first_of o (byte_in cells a)) (stored_below address width value a (omega arith)));
  rest = λ a from. refl;
}

pub keeping_more : (before : ℕ → Option ℕ) (address width value i rest : ℕ) (cells : List (Option ℕ)) → Storing address width value i rest → i < width
    → address + i < length cells → Keeping before address width value i cells
    → Keeping before address width value (i + 1) (set cells (address + i) (Some (rest % 256)))
keeping_more before address width value i rest cells storing more within keeping = record {
  front = λ a below. elim (cases_eq a (address + i)) [
    | inl e ↦ ap (byte_in (set cells (address + i) (Some (rest % 256)))) e ∙ (get_or-set_same cells (address + i) (Some (rest % 256)) None within
        ∙ sym (ap (joined (stored address width value) before) e ∙ ap (λ o. first_of o (before (address + i))) (storing_byte address width value i rest storing more)))
    | inr other ↦ get_or-set_other cells (address + i) a (Some (rest % 256)) None other ∙ keeping.front a (omega arith)
  ];
  rest = λ a from. let other : a ≢ address + i = omega arith in get_or-set_other cells (address + i) a (Some (rest % 256)) None other ∙ keeping.rest a (omega arith);
}

pub keeping_end : (before : ℕ → Option ℕ) (address width value rest : ℕ) (cells : List (Option ℕ)) → Storing address width value width rest
    → Keeping before address width value width cells → (a : ℕ) → byte_in cells a ≡ joined (stored address width value) before a
keeping_end before address width value rest cells storing keeping a = elim (cases_lt a (address + width)) [
  | inl below ↦ keeping.front a below
  | inr from ↦ keeping.rest a from ∙ sym (ap (λ o. first_of o (before a)) (storing_end address width value rest storing a from))
]

-- ---- loads

past_test : (address i : ℕ) → (nat_le address (address + i) && nat_lt (address + i) (address + i)) ≡ false
past_test address i = grind (arith, nat_tests)

-- so far the bytes that are read from outside are noted
pub record Noting (own : ℕ → Option ℕ) (committed : ℕ → ℕ) (before : ℕ → Option ℕ) (address i : ℕ) (cells : List (Option ℕ)) : Type 0 where
  pub same : (a : ℕ) → byte_in cells a ≡ joined (read_outside address i own committed) before a

-- ---- own bytes that are committed

-- the byte is committed, or it is still as before and stands further on
pub record Committing (own : ℕ → Option ℕ) (before : ℕ → ℕ) (addresses : List ℕ) (from : ℕ) (committed : List ℕ) : Type 0 where
  pub each : (a : ℕ) → (slice_index committed a ≡ over own before a)
      ⊎ ((slice_index committed a ≡ before a) × ((place : ℕ) × (from ≤ place) × (place < length addresses) × (slice_index addresses place ≡ a)))

later : (addresses : List ℕ) (from addr a place : ℕ) → slice_index addresses from ≡ addr → a ≢ addr → slice_index addresses place ≡ a → from ≤ place → from + 1 ≤ place
later addresses from addr a place is other at low =
    let apart : place ≢ from = λ e. other (sym at ∙ (ap (slice_index addresses) e ∙ is)) in omega arith
