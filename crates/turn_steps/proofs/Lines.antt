-- Where an access lies: in one row, and with its line near it.
use Rattle.std.proofs.Common.{◌≡◌, ◌≢◌, ℕ, ◌+◌, ◌*◌, ◌/◌, ◌%◌, ◌<◌, ◌≤◌, ◌==◌, Bool, true, false, nat_le, nat_lt, inl, inr, refl, sym, ap, subst, ◌∙◌, arith}
use Rattle.std.proofs.lemmas.Bool.{cases_Bool, and_parts, ltb-true, leb-true}
use Rattle.std.proofs.lemmas.Bool.Decides.{nat_tests}
use Rattle.rv32_image.specs.Image.{LoadedImage}
use Rattle.rv32_image.specs.Machine.{IsMachineFor}
use Rattle.rv32_image.specs.Places.{place}
use Rattle.rv32_image.proofs.Bounds.{same_number}
use Rattle.memory_bytes.specs.Bytes.{IsWidth}
use Rattle.memory_bytes.specs.Maps.{over, stored}
use Rattle.rv32_exec.specs.declared.stop.Stop.TheVariants as stop
use Rattle.rv32_exec.specs.Execute.{IsAccess, IsStore, IsStopOf}
use Rattle.rv32_exec.specs.Hart.{HartState}
use Rattle.rv32_exec.specs.NextEvent.{next_event}
use Rattle.rv32_exec.proofs.Accesses.{stop_of_event}
use Rattle.violations.specs.Rule.{shape_of}
use Rattle.violations.specs.View.{Shape, line_of, is_accessed}
use Rattle.turn_steps.specs.Laws.{is_near}
use Rattle.turn_steps.proofs.Near.{near}

-- ---- accesses

pub record IsAligned (address width : ℕ) : Type 0 where
  pub wide : IsWidth width
  pub aligned : address % width ≡ 0

pub load_aligned : (image : LoadedImage) (h : HartState) (address width rd : ℕ) (signed : Bool) → (next_event image h).at ≡ stop.Load address width signed rd → IsAligned address width
load_aligned image h address width rd signed is =
    let access : IsAccess image (next_event image h).now address width = subst (IsStopOf image (next_event image h).now) is (stop_of_event image h) in
    record { wide = access.wide; aligned = access.aligned }

pub store_aligned : (image : LoadedImage) (h : HartState) (address width value : ℕ) → (next_event image h).at ≡ stop.Store address width value → IsAligned address width
store_aligned image h address width value is =
    let store : IsStore image (next_event image h).now address width value = subst (IsStopOf image (next_event image h).now) is (stop_of_event image h) in
    record { wide = store.access.wide; aligned = store.access.aligned }

-- ---- rows

row_of_1 : (address a : ℕ) → address ≤ a → a < address + 1 → a / 16 ≡ address / 16
row_of_1 address a from below = omega arith

row_of_2 : (address a : ℕ) → address % 2 ≡ 0 → address ≤ a → a < address + 2 → a / 16 ≡ address / 16
row_of_2 address a aligned from below = omega arith

row_of_4 : (address a : ℕ) → address % 4 ≡ 0 → address ≤ a → a < address + 4 → a / 16 ≡ address / 16
row_of_4 address a aligned from below = omega arith

row_by : (address width a : ℕ) → IsWidth width → address % width ≡ 0 → address ≤ a → a < address + width → a / 16 ≡ address / 16
row_by address width a (inl one) aligned from below = row_of_1 address a from (subst (λ n. a < address + n) one below)
row_by address width a (inr (inl two)) aligned from below =
    row_of_2 address a (subst (λ n. address % n ≡ 0) two aligned) from (subst (λ n. a < address + n) two below)
row_by address width a (inr (inr four)) aligned from below =
    row_of_4 address a (subst (λ n. address % n ≡ 0) four aligned) from (subst (λ n. a < address + n) four below)

-- an access lies in one row
pub in_row : (address width a : ℕ) → IsAligned address width → is_accessed address width a ≡ true → a / 16 ≡ address / 16
in_row address width a access is =
    let two = and_parts (nat_le address a) (nat_lt a (address + width)) is in
    row_by address width a access.wide access.aligned (leb-true address a two.0) (ltb-true a (address + width) two.1)

-- so it has no byte of another
pub in_no_other : (address width a : ℕ) → IsAligned address width → address / 16 ≢ a / 16 → is_accessed address width a ≡ false
in_no_other address width a access other = elim (cases_Bool (is_accessed address width a)) [
  | inl is ↦ absurd (other (sym (in_row address width a access is)))
  | inr isnt ↦ isnt
]

-- bytes of no store are as they were
pub unstored : (address width value : ℕ) (memory : ℕ → ℕ) (a : ℕ) → is_accessed address width a ≡ false → over (stored address width value) memory a ≡ memory a
unfolding stored
unstored address width value memory a isnt = rw isnt refl

-- ---- rows that are near

pub row_of_byte : (row i : ℕ) → i < 16 → (16 * row + i) / 16 ≡ row
row_of_byte row i below = omega arith

-- bytes of one line lie near one another
pub near_in_line : (image : LoadedImage) (count : ℕ) (shape : Shape) (a b : ℕ) → IsMachineFor image.size image.machine → shape ≡ shape_of image count
    → line_of shape a ≡ line_of shape b → a < b + 64
near_in_line image count shape a b fits is same =
    near image.machine image.size fits a b
    (same_number image.machine.line_length (place image.machine image.size a) (place image.machine image.size b) fits.is.line_length
    (ap (λ (s : Shape). line_of s a) (sym is) ∙ (same ∙ ap (λ (s : Shape). line_of s b) is)))

-- so a byte of the access's row and one that isn't near it lie in different lines
pub far_apart : (address at a : ℕ) → is_near (address / 16) (a / 16) ≡ false → at / 16 ≡ address / 16 → at < a + 64 → a < at + 64 → ⊥
far_apart address at a isnt row one two = grind (arith, nat_tests)

-- the byte of a row that isn't near
pub far_byte : (address row i : ℕ) → i < 16 → is_near (address / 16) row ≡ false → is_near (address / 16) ((16 * row + i) / 16) ≡ false
far_byte address row i below isnt = subst (λ r. is_near (address / 16) r ≡ false) (sym (row_of_byte row i below)) isnt

-- the row is of other bytes than the access
pub row_apart : (address row i : ℕ) → i < 16 → is_near (address / 16) row ≡ false → address / 16 ≢ (16 * row + i) / 16
row_apart address row i below isnt same = let here = row_of_byte row i below in grind (arith, nat_tests)
