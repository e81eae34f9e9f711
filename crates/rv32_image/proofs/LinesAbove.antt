-- The lines above the first that begins with a prefix, and their bytes.
use Rattle.std.proofs.Common.{◌≡◌, ℕ, suc, ◌+◌, ◌≤◌, Bool, true, false, cond, List, [], ◌∷◌, length, take, refl, ap, one-add, arith}
use Rattle.std.proofs.lemmas.List.{take_all}
use Rattle.std.proofs.lemmas.List.Splits.{length-slice_split}
use Rattle.std.specs.List.{slice_split, onto_first}
use Rattle.rv32_image.specs.ImageText.{pieces}
use Rattle.rv32_image.specs.Parts.{begins_with, bytes_of, image_above, lines_above}

pub lines_above-none : (prefix : List ℕ) → lines_above prefix [] ≡ 0
unfolding lines_above
lines_above-none prefix = refl

pub lines_above-head : (prefix line : List ℕ) (lines : List (List ℕ)) → begins_with prefix line ≡ true → lines_above prefix (line ∷ lines) ≡ 0
unfolding lines_above
lines_above-head prefix line lines is = rw is refl

pub lines_above-more : (prefix line : List ℕ) (lines : List (List ℕ)) → begins_with prefix line ≡ false
    → lines_above prefix (line ∷ lines) ≡ suc (lines_above prefix lines)
unfolding lines_above
lines_above-more prefix line lines is = rw is (one-add (lines_above prefix lines))

abbrev pub bytes_above : List ℕ → List (List ℕ) → ℕ
bytes_above prefix lines = bytes_of (take (lines_above prefix lines) lines)

-- the image ends after so many bytes
pub image_above-is : (prefix text : List ℕ) (n : ℕ) → bytes_above prefix (pieces 10 text) ≡ n → image_above prefix text ≡ take n text
unfolding image_above
image_above-is prefix text n is = ap (λ k. take k text) is

pub image_above-all : (prefix text : List ℕ) → length text ≤ bytes_above prefix (pieces 10 text) → image_above prefix text ≡ text
unfolding image_above
image_above-all prefix text long = take_all (bytes_above prefix (pieces 10 text)) text long

-- ---- bytes

bytes_onto : (x : ℕ) (lines : List (List ℕ)) → 1 ≤ length lines → bytes_of (onto_first x lines) ≡ 1 + bytes_of lines
bytes_onto x [] some = absurd (omega arith)
bytes_onto x (line ∷ lines) some = omega arith

either : (b : Bool) (x n : ℕ) (lines : List (List ℕ)) → 1 ≤ length lines → bytes_of lines ≡ n + 1
    → bytes_of (cond b ([] ∷ lines) (onto_first x lines)) ≡ suc n + 1
either true x n lines some is = omega arith
either false x n lines some is = omega (arith, bytes_onto x lines some)

-- a text has one byte less than its pieces with a separator after each
pub bytes_of-split : (p : ℕ → Bool) (text : List ℕ) → bytes_of (slice_split p text) ≡ length text + 1
bytes_of-split p [] = refl
bytes_of-split p (x ∷ text) =
    let some : 1 ≤ length (slice_split p text) = omega (arith, length-slice_split p text) in
    either (p x) x (length text) (slice_split p text) some (bytes_of-split p text)
