-- Rows of which a core has stored bytes, taken one by one.
use Rattle.std.proofs.Common.{◌≡◌, ◌≢◌, ℕ, Bool, true, false, ◌&&◌, ◌||◌, ◌==◌, not, List, [], ◌∷◌, ◌++◌, refl, ap, sym, subst, ◌∙◌, arith, ⊎_elim}
use Rattle.std.proofs.lemmas.Bool.{cases_eq, and_right}
use Rattle.std.proofs.lemmas.Bool.Decides.{nat_tests}
use Rattle.std.specs.BTreeMap.{is_at}
use Rattle.std.specs.Ordering.{nat_cmp}
use Rattle.spec_states.proofs.RowLaws.{nonzero}
use Rattle.turn_steps.specs.declared.kept_row.KeptRow.{KeptRow}
use Rattle.turn_steps.specs.Kept.{row_at}
use Rattle.turn_steps.specs.KeptRow.{nothing}
use Rattle.turn_steps.proofs.Passes.{among, among_it, among_others, apart}

abbrev pub owned_at : List (ℕ × KeptRow) → ℕ → Bool
owned_at shown row = not ((row_at shown row).own == 0)

zero_is : (n : ℕ) → n ≡ 0 → not (n == 0) ≡ false
zero_is n is = grind (arith, nat_tests)

pub is_owned : (shown : List (ℕ × KeptRow)) (x : ℕ) (row : KeptRow) → row ≡ row_at shown x → row.own ≢ 0 → owned_at shown x ≡ true
is_owned shown x row is some = ap (λ (k : KeptRow). not (k.own == 0)) (sym is) ∙ nonzero row.own some

pub isnt_owned : (shown : List (ℕ × KeptRow)) (x : ℕ) (row : KeptRow) → row ≡ row_at shown x → row.own ≡ 0 → owned_at shown x ≡ false
isnt_owned shown x row is none = ap (λ (k : KeptRow). not (k.own == 0)) (sym is) ∙ zero_is row.own none

all_true : (base first second : Bool) → first ≡ true → second ≡ true → (base || (first && second)) ≡ true
all_true true first second p q = refl
all_true false first second p q = rw (p, q) refl

-- a row that it has stored bytes of is put in
pub more_owned : (owns : ℕ → Bool) (ys : List ℕ) (x : ℕ) (start rows new : ℕ → Bool) → ((r : ℕ) → rows r ≡ (start r || (among ys r && owns r)))
    → owns x ≡ true → new x ≡ true → ((r : ℕ) → is_at (nat_cmp x) r ≡ false → new r ≡ rows r)
    → (r : ℕ) → new r ≡ (start r || (among (ys ++ x ∷ []) r && owns r))
more_owned owns ys x start rows new so owned put others r =
    ⊎_elim
    (λ same. subst (λ (n : ℕ). new n ≡ (start n || (among (ys ++ x ∷ []) n && owns n))) (sym same)
    (put ∙ sym (all_true (start x) (among (ys ++ x ∷ []) x) (owns x) (among_it ys x) owned)))
    (λ other. others r (apart x r (λ back. other (sym back))) ∙ so r ∙ ap (λ b. start r || (b && owns r)) (sym (among_others ys x r other)))
    (cases_eq r x)

-- another one isn't
pub none_owned : (owns : ℕ → Bool) (ys : List ℕ) (x : ℕ) (start rows : ℕ → Bool) → ((r : ℕ) → rows r ≡ (start r || (among ys r && owns r)))
    → owns x ≡ false → (r : ℕ) → rows r ≡ (start r || (among (ys ++ x ∷ []) r && owns r))
none_owned owns ys x start rows so none r =
    ⊎_elim
    (λ same. subst (λ (n : ℕ). rows n ≡ (start n || (among (ys ++ x ∷ []) n && owns n))) (sym same)
    (so x ∙ ap (λ b. start x || b) (and_right (among ys x) (owns x) none ∙ sym (and_right (among (ys ++ x ∷ []) x) (owns x) none))))
    (λ other. so r ∙ ap (λ b. start r || (b && owns r)) (sym (among_others ys x r other)))
    (cases_eq r x)

-- no others are there
pub all_owned : (listed : Bool) (row : KeptRow) → (listed ≡ false → row ≡ nothing) → (listed && not (row.own == 0)) ≡ not (row.own == 0)
all_owned true row outside = refl
all_owned false row outside = sym (zero_is row.own (ap (λ (k : KeptRow). k.own) (outside refl)))
