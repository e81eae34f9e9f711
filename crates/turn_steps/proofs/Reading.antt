-- Rows read byte by byte, and what a core keeps of them.
use Rattle.std.proofs.Common.{◌≡◌, ℕ, zero, suc, ◌+◌, ◌*◌, ◌^◌, ◌<◌, ◌==◌, Bool, true, false, List, [], ◌∷◌, ◌++◌, length, take, replicate, slice_set, if◌then◌else◌, Option, Some, None, is_some, unwrap_or, refl, ap, sym, subst, ◌∙◌, arith, add-one, ⊎_elim}
use Rattle.std.proofs.lemmas.Bool.{cases_eq, eqb-true, not-false}
use Rattle.std.proofs.lemmas.List.{length-set, take_all, take_more_set}
use Rattle.std.proofs.lemmas.Nat.{pow_pos}
use Rattle.std.specs.Option.{IfSome}
use Rattle.violations.specs.View.{IsClear, StoreView}
use Rattle.turn_steps.specs.declared.kept_row.KeptRow.{KeptRow}
use Rattle.turn_steps.specs.Kept.{owns_in}
use Rattle.turn_steps.specs.KeptRow.{kept_of, nothing}
use Rattle.turn_steps.specs.Rows.{IsSameRow, bytes_from, mask_from, own_byte}

-- ---- one more

pub no_bytes : (memory : ℕ → ℕ) (address : ℕ) → bytes_from memory address 0 ≡ []
unfolding bytes_from
no_bytes memory address = refl

pub bytes_more : (memory : ℕ → ℕ) (address count : ℕ) → bytes_from memory address (count + 1) ≡ bytes_from memory address count ++ memory (address + count) ∷ []
unfolding bytes_from
bytes_more memory address count = ap (bytes_from memory address) (add-one count)

pub no_mask : (bytes : ℕ → Bool) (address : ℕ) → mask_from bytes address 0 ≡ 0
unfolding mask_from
no_mask bytes address = refl

pub mask_more : (bytes : ℕ → Bool) (address count : ℕ)
    → mask_from bytes address (count + 1) ≡ mask_from bytes address count + (if bytes (address + count) then 2 ^ count else 0)
unfolding mask_from
mask_more bytes address count = ap (mask_from bytes address) (add-one count)

-- the first of the 16 bytes of a row are read
pub record Fills (memory : ℕ → ℕ) (address count : ℕ) (row : List ℕ) : Type 0 where
  pub so : take count row ≡ bytes_from memory address count
  pub long : length row ≡ 16

pub fills_more : (memory : ℕ → ℕ) (address count byte : ℕ) (row : List ℕ) → Fills memory address count row → count < 16
    → byte ≡ memory (address + count) → Fills memory address (count + 1) (slice_set row count byte)
fills_more memory address count byte row fills less is = record {
  so = take_more_set row count byte (omega arith)
      ∙ ap (λ l. l ++ byte ∷ []) fills.so
      ∙ ap (λ b. bytes_from memory address count ++ b ∷ []) is
      ∙ sym (bytes_more memory address count);
  long = length-set row count byte ∙ fills.long;
}

pub fills_all : (memory : ℕ → ℕ) (address count : ℕ) (row : List ℕ) → Fills memory address count row → count ≡ 16 → row ≡ bytes_from memory address 16
fills_all memory address count row fills whole =
    sym (take_all count row (omega arith)) ∙ fills.so ∙ ap (bytes_from memory address) whole

-- the first bits of a mask are set
pub record Masks (bytes : ℕ → Bool) (address count mask : ℕ) : Type 0 where
  pub so : mask ≡ mask_from bytes address count
  pub below : mask < 2 ^ count

pub masks_none : (bytes : ℕ → Bool) (address : ℕ) → Masks bytes address 0 0
masks_none bytes address = record { so = sym (no_mask bytes address); below = pow_pos 0 }

pub masks_more : (bytes : ℕ → Bool) (address count mask : ℕ) (bit : Bool) (next : ℕ) → Masks bytes address count mask → bit ≡ bytes (address + count)
    → next ≡ mask + (if bit then 2 ^ count else 0) → next < 2 ^ (count + 1) → Masks bytes address (count + 1) next
masks_more bytes address count mask bit next masks is more below = record {
  so = more
      ∙ ap (λ m. m + (if bit then 2 ^ count else 0)) masks.so
      ∙ ap (λ (b : Bool). mask_from bytes address count + (if b then 2 ^ count else 0)) is
      ∙ sym (mask_more bytes address count);
  below = below;
}

pub masks_all : (bytes : ℕ → Bool) (address count mask : ℕ) → Masks bytes address count mask → count ≡ 16 → mask ≡ mask_from bytes address 16
masks_all bytes address count mask masks whole = masks.so ∙ ap (mask_from bytes address) whole

-- the byte, if it is owned
pub or_zero : (byte : Option ℕ) (owned : Bool) (seen : ℕ) → is_some byte ≡ owned → IfSome byte (λ b. b ≡ seen)
    → unwrap_or byte 0 ≡ (if owned then seen else 0)
or_zero None owned seen is some = rw (sym is) refl
or_zero (Some b) owned seen is some = rw (sym is) some

-- ---- the same of each byte

pub bytes_same : (old new : ℕ → ℕ) (address count : ℕ) → ((i : ℕ) → i < count → new (address + i) ≡ old (address + i))
    → bytes_from new address count ≡ bytes_from old address count
unfolding bytes_from
bytes_same old new address zero same = refl
bytes_same old new address (suc count) same =
    ap (λ l. l ++ new (address + count) ∷ []) (bytes_same old new address count (λ i less. same i (omega arith)))
    ∙ ap (λ b. bytes_from old address count ++ b ∷ []) (same count (omega arith))

mask_same : (old new : ℕ → Bool) (address count : ℕ) → ((i : ℕ) → i < count → new (address + i) ≡ old (address + i))
    → mask_from new address count ≡ mask_from old address count
unfolding mask_from
mask_same old new address zero same = refl
mask_same old new address (suc count) same =
    ap (λ m. m + (if new (address + count) then 2 ^ count else 0)) (mask_same old new address count (λ i less. same i (omega arith)))
    ∙ ap (λ (b : Bool). mask_from old address count + (if b then 2 ^ count else 0)) (same count (omega arith))

no_bit : (address count : ℕ) → mask_from (λ a. false) address count ≡ 0
unfolding mask_from
no_bit address zero = refl
no_bit address (suc count) = ap (λ m. m + 0) (no_bit address count)

zero_bytes : (address : ℕ) → bytes_from (λ a. 0) address 16 ≡ replicate 16 0
unfolding bytes_from
zero_bytes address = refl

of_parts : (a b : KeptRow) → a.read ≡ b.read → a.own ≡ b.own → a.bytes ≡ b.bytes → a ≡ b
of_parts a b read own bytes =
    let reads : ℕ → KeptRow = λ n. record { read = n; own = a.own; bytes = a.bytes } in
    let owns : ℕ → KeptRow = λ n. record { read = b.read; own = n; bytes = a.bytes } in
    let has : List ℕ → KeptRow = λ l. record { read = b.read; own = b.own; bytes = l } in
    ap reads read ∙ ap owns own ∙ ap has bytes

own_same : (owned now : Bool) (old new : ℕ) → now ≡ owned → (owned ≡ true → new ≡ old) → (if now then new else 0) ≡ (if owned then old else 0)
own_same true now old new is same = rw is (same refl)
own_same false now old new is same = rw is refl

-- a row that is the same is kept as it was
pub kept_same : (old new : StoreView) (core row : ℕ) → IsSameRow old new core row → kept_of new core row ≡ kept_of old core row
kept_same old new core row same = of_parts (kept_of new core row) (kept_of old core row)
    (mask_same (old.guarded core) (new.guarded core) (16 * row) 16 same.guarded)
    (mask_same (old.own core) (new.own core) (16 * row) 16 same.own)
    (bytes_same (own_byte old core) (own_byte new core) (16 * row) 16
    (λ i less. own_same (old.own core (16 * row + i)) (new.own core (16 * row + i)) (old.sees core (16 * row + i)) (new.sees core (16 * row + i)) (same.own i less) (same.sees i less)))

not_own : (owned : Bool) (byte : ℕ) → owned ≡ false → (if owned then byte else 0) ≡ 0
not_own owned byte none_is = rw none_is refl

-- a clear core keeps nothing
pub kept_clear : (v : StoreView) (core row : ℕ) → IsClear v core → kept_of v core row ≡ nothing
kept_clear v core row clear = of_parts (kept_of v core row) nothing
    (mask_same (λ a. false) (v.guarded core) (16 * row) 16 (λ i less. clear.guarded (16 * row + i)) ∙ no_bit (16 * row) 16)
    (mask_same (λ a. false) (v.own core) (16 * row) 16 (λ i less. clear.own (16 * row + i)) ∙ no_bit (16 * row) 16)
    (bytes_same (λ a. 0) (own_byte v core) (16 * row) 16 (λ i less. not_own (v.own core (16 * row + i)) (v.sees core (16 * row + i)) (clear.own (16 * row + i))) ∙ zero_bytes (16 * row))

-- ---- rows with own bytes

bit_of : (b : Bool) (n : ℕ) → (if b then 2 ^ n else 0) ≡ 0 → b ≡ false
bit_of true n none = let some : 0 < 2 ^ n = pow_pos n in absurd (omega arith)
bit_of false n none = refl

none_in : (bytes : ℕ → Bool) (address count : ℕ) → mask_from bytes address count ≡ 0 → (i : ℕ) → i < count → bytes (address + i) ≡ false
unfolding mask_from
none_in bytes address zero none i less = absurd (omega arith)
none_in bytes address (suc count) none i less =
    ⊎_elim
    (λ same. subst (λ (n : ℕ). bytes (address + n) ≡ false) (sym same) (bit_of (bytes (address + count)) count (omega arith)))
    (λ other. none_in bytes address count (omega arith) i (omega arith))
    (cases_eq i count)

-- where a core has stored no byte of a row
pub not_owned : (v : StoreView) (core row : ℕ) → owns_in v core row ≡ false → (i : ℕ) → i < 16 → v.own core (16 * row + i) ≡ false
not_owned v core row none_is i less =
    let mask = mask_from (v.own core) (16 * row) 16 in
    none_in (v.own core) (16 * row) 16 (eqb-true mask 0 (not-false (mask == 0) none_is)) i less
