-- What a turn leaves as it was, outside a set of rows.
use Rattle.std.proofs.Common.{◌≡◌, ◌⊎◌, ℕ, ◌+◌, ◌*◌, ◌/◌, ◌<◌, ◌||◌, Bool, true, false, List, inl, inr, refl, sym, subst, ◌∙◌, true≢false}
use Rattle.std.specs.BTreeSet.{BTreeSet, contains}
use Rattle.std.specs.List.{list_any}
use Rattle.std.specs.Ordering.{nat_cmp}
use Rattle.std.proofs.lemmas.Bool.{cases_Bool}
use Rattle.spec_history.specs.declared.entry.Entry.{Entry}
use Rattle.violations.specs.View.{StoreView}
use Rattle.bus_states.proofs.Copies.{not_so}
use Rattle.turn_steps.specs.Laws.{KeepsMemory, Adds, stores_in, commits}
use Rattle.turn_steps.proofs.Lines.{row_of_byte}

or_true : (a b : Bool) → (a ≡ true) ⊎ (b ≡ true) → (a || b) ≡ true
or_true true b either = refl
or_true false b (inl is) = absurd (true≢false (sym is))
or_true false b (inr is) = is

-- a row that was in the set, or is one of the added ones, is in it
pub added_in : (old new : BTreeSet ℕ) (rows : ℕ → Bool) (row : ℕ) → Adds old new rows → (contains nat_cmp old row ≡ true) ⊎ (rows row ≡ true) → contains nat_cmp new row ≡ true
added_in old new rows row adds either = adds row ∙ or_true (contains nat_cmp old row) (rows row) either

-- committed bytes are as they were outside a set that has the rows of the turn's stores and, if it commits, of the core's own bytes
pub same_memory : (v w : StoreView) (core : ℕ) (added : List Entry) (rows : BTreeSet ℕ) → KeepsMemory v w core added
    → ((row : ℕ) → list_any (stores_in row) added ≡ true → contains nat_cmp rows row ≡ true)
    → (list_any commits added ≡ true → (a : ℕ) → a / 16 < v.shape.size / 16 → v.own core a ≡ true → contains nat_cmp rows (a / 16) ≡ true)
    → (row i : ℕ) → row < v.shape.size / 16 → contains nat_cmp rows row ≡ false → i < 16 → w.committed (16 * row + i) ≡ v.committed (16 * row + i)
same_memory v w core added rows keeps stored owned row i inside isnt below =
    keeps.same row (16 * row + i) at (not_so (list_any (stores_in row) added) (contains nat_cmp rows row) (stored row) isnt) (elim (cases_Bool (list_any commits added)) [
      | inl is ↦ inr (not_so (v.own core (16 * row + i)) (contains nat_cmp rows row)
          (λ own. subst (λ r. contains nat_cmp rows r ≡ true) at (owned is (16 * row + i) (subst (λ r. r < v.shape.size / 16) (sym at) inside) own)) isnt)
      | inr none ↦ inl none
    ])
  where
    at : (16 * row + i) / 16 ≡ row
    at = row_of_byte row i below
