-- The rows of the table exclude one another.
use Rattle.std.proofs.Common.{◌≡◌, ◌⊎◌, inl, inr, ℕ, zero, suc, Bool, true, false, not, ◌==◌, ◌&&◌, ◌||◌, Option, Some, None, List, [], ◌∷◌, slice_get, refl, sym, ap, subst, arith}
use Rattle.std.proofs.lemmas.Bool.{and_parts}
use Rattle.std.proofs.lemmas.Bool.Decides.{nat_tests}
use Rattle.rv32_decode.specs.Table.{Row, fits_row, is_fixed, table}
use Rattle.rv32_decode.specs.Word.{funct3, funct7, opcode}

-- both rows fix the field, to different values
differ : Option ℕ → Option ℕ → Bool
differ None other = false
differ (Some a) None = false
differ (Some a) (Some b) = not (a == b)

differ_sound : (first second : Option ℕ) (field : ℕ) → differ first second ≡ true → is_fixed first field ≡ true → is_fixed second field ≡ true → ⊥
unfolding differ
differ_sound None other field apart fits fits' = cc
differ_sound (Some a) None field apart fits fits' = cc
differ_sound (Some a) (Some b) field apart fits fits' = grind (arith, nat_tests)

-- no word fits both rows
exclude : Row → Row → Bool
exclude first second = not (first.opcode == second.opcode) || differ first.funct3 second.funct3 || differ first.funct7 second.funct7

all_three : (a b c : Bool) → (a && b && c) ≡ true → (a ≡ true) × (b ≡ true) × (c ≡ true)
all_three true true true is = (refl, refl, refl)
all_three true true false is = cc
all_three true false c is = cc
all_three false b c is = cc

one_of_three : (a b c : Bool) → (a || b || c) ≡ true → (a ≡ true) ⊎ ((b ≡ true) ⊎ (c ≡ true))
one_of_three true b c is = inl refl
one_of_three false true c is = inr (inl refl)
one_of_three false false true is = inr (inr refl)
one_of_three false false false is = cc

opcodes_sound : (a b code : ℕ) → not (a == b) ≡ true → (code == a) ≡ true → (code == b) ≡ true → ⊥
opcodes_sound a b code apart is is' = grind (arith, nat_tests)

exclude_sound : (first second : Row) (word : ℕ) → exclude first second ≡ true → fits_row first word ≡ true → fits_row second word ≡ true → ⊥
unfolding exclude
exclude_sound first second word apart fits fits' =
    let f = all_three (opcode word == first.opcode) (is_fixed first.funct3 (funct3 word)) (is_fixed first.funct7 (funct7 word)) fits in
    let s = all_three (opcode word == second.opcode) (is_fixed second.funct3 (funct3 word)) (is_fixed second.funct7 (funct7 word)) fits' in
    elim (one_of_three (not (first.opcode == second.opcode)) (differ first.funct3 second.funct3) (differ first.funct7 second.funct7) apart) [
      | inl codes ↦ opcodes_sound first.opcode second.opcode (opcode word) codes f.0 s.0
      | inr (inl three) ↦ differ_sound first.funct3 second.funct3 (funct3 word) three f.1 s.1
      | inr (inr seven) ↦ differ_sound first.funct7 second.funct7 (funct7 word) seven f.2 s.2
    ]

excludes_all : Row → List Row → Bool
excludes_all row [] = true
excludes_all row (other ∷ rows) = exclude row other && excludes_all row rows

are_apart : List Row → Bool
are_apart [] = true
are_apart (row ∷ rows) = excludes_all row rows && are_apart rows

table_apart : are_apart table ≡ true
unfolding are_apart excludes_all exclude differ
table_apart = refl

-- a word that fits the row fits none of those that it excludes
fits_no_other : (rows : List Row) (row second : Row) (word j : ℕ) → excludes_all row rows ≡ true → fits_row row word ≡ true
    → slice_get rows j ≡ Some second → fits_row second word ≡ true → ⊥
unfolding excludes_all
fits_no_other [] row second word j apart fits is fits' = cc
fits_no_other (other ∷ rows) row second word zero apart fits is fits' =
    let same : other ≡ second = cc in
    let P : Row → Type 0 = λ r. fits_row r word ≡ true in
    exclude_sound row other word (and_parts (exclude row other) (excludes_all row rows) apart).0 fits (subst P (sym same) fits')
fits_no_other (other ∷ rows) row second word (suc j) apart fits is fits' =
    fits_no_other rows row second word j (and_parts (exclude row other) (excludes_all row rows) apart).1 fits is fits'

fits_one : (rows : List Row) (word i j : ℕ) (first second : Row) → are_apart rows ≡ true → slice_get rows i ≡ Some first → slice_get rows j ≡ Some second
    → fits_row first word ≡ true → fits_row second word ≡ true → i ≡ j
unfolding are_apart
fits_one [] word i j first second apart at at' fits fits' = absurd cc
fits_one (row ∷ rows) word zero zero first second apart at at' fits fits' = refl
fits_one (row ∷ rows) word zero (suc j) first second apart at at' fits fits' =
    let same : row ≡ first = cc in
    let P : Row → Type 0 = λ r. fits_row r word ≡ true in
    absurd (fits_no_other rows row second word j (and_parts (excludes_all row rows) (are_apart rows) apart).0 (subst P (sym same) fits) at' fits')
fits_one (row ∷ rows) word (suc i) zero first second apart at at' fits fits' =
    let same : row ≡ second = cc in
    let P : Row → Type 0 = λ r. fits_row r word ≡ true in
    absurd (fits_no_other rows row first word i (and_parts (excludes_all row rows) (are_apart rows) apart).0 (subst P (sym same) fits') at fits)
fits_one (row ∷ rows) word (suc i) (suc j) first second apart at at' fits fits' =
    ap (λ n. suc n) (fits_one rows word i j first second (and_parts (excludes_all row rows) (are_apart rows) apart).1 at at' fits fits')

pub fits_one_row : (word i j : ℕ) (first second : Row) → slice_get table i ≡ Some first → slice_get table j ≡ Some second
    → fits_row first word ≡ true → fits_row second word ≡ true → i ≡ j
fits_one_row word i j first second = fits_one table word i j first second table_apart
