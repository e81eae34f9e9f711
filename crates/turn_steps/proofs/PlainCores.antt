-- What was shown of the cores of a plain store, core by core.
use Rattle.std.proofs.Common.{◌≡◌, ℕ, ◌+◌, ◌*◌, ◌/◌, ◌%◌, ◌<◌, ◌≤◌, ◌||◌, true, false, List, [], ◌∷◌, ◌++◌, length, Option, Some, None, is_some, inr, refl, ap, sym, subst, ◌∙◌, arith, add-one, append_assoc, true≢false, ⊎_elim}
use Rattle.std.proofs.lemmas.Bool.{cases_Bool, cases_eq, or_parts, or_right, not-true}
use Rattle.std.proofs.lemmas.List.{append-nil, get_or_append_left, get_or_push}
use Rattle.std.proofs.lemmas.Option.{slice_get_past}
use Rattle.std.specs.BTreeSet.{BTreeSet, contains}
use Rattle.std.specs.List.{list_any}
use Rattle.std.specs.Ordering.{nat_cmp}
use Rattle.spec_history.specs.declared.entry.Entry.{Entry}
use Rattle.violations.specs.declared.attempt.Attempt.{Attempt}
use Rattle.violations.specs.Plain.{PlainView, own_in, store_view}
use Rattle.violations.specs.View.{IsClear, StoreView}
use Rattle.turn_steps.specs.declared.kept_row.KeptRow.{KeptRow}
use Rattle.turn_steps.specs.Kept.{IsKeptBut, ShowsKept, is_speculative, owns_in}
use Rattle.turn_steps.specs.KeptCores.{AreKept, cores_changes, kept_in}
use Rattle.turn_steps.specs.Laws.{Adds, KeepsRows, touches}
use Rattle.turn_steps.specs.Rows.{kept_changes, row_count}
use Rattle.turn_steps.proofs.Reading.{not_owned}

-- ---- the text

pub no_cores : (text : List ℕ) (old now : StoreView) → text ≡ text ++ cores_changes old now 0
unfolding cores_changes
no_cores text old now = sym (append-nil text)

cores_more : (old now : StoreView) (core : ℕ) → cores_changes old now (core + 1) ≡ cores_changes old now core ++ kept_changes core old now (row_count old)
unfolding cores_changes
cores_more old now core = ap (cores_changes old now) (add-one core)

pub more_cores : (old now : StoreView) (core : ℕ) (start text new : List ℕ) → text ≡ start ++ cores_changes old now core
    → new ≡ text ++ kept_changes core old now (row_count old) → new ≡ start ++ cores_changes old now (core + 1)
more_cores old now core start text new so more =
    more ∙ ap (λ t. t ++ kept_changes core old now (row_count old)) so
    ∙ append_assoc start (cores_changes old now core) (kept_changes core old now (row_count old))
    ∙ ap (λ t. start ++ t) (sym (cores_more old now core))

-- ---- what a turn leaves

runs_one : (v : StoreView) (core : ℕ) (attempt : Option Attempt) → v.attempt core ≡ attempt → is_speculative attempt ≡ true
    → (x : Attempt) × (v.attempt core ≡ Some x) × (x.straight ≡ false)
runs_one v core None is runs = absurd (true≢false (sym runs))
runs_one v core (Some x) is runs = (x, is, not-true x.straight runs)

-- the rows that the entries touch may be otherwise
pub kept_but : (before rows : BTreeSet ℕ) (added : List Entry) (v w : StoreView) (by core : ℕ) → w.shape.size ≡ v.shape.size
    → Adds before rows (λ row. list_any (touches row) added) → KeepsRows v w by added → IsKeptBut rows v w core
kept_but before rows added v w by core same adds keeps = record {
  size = same;
  same = λ runs row less outside.
      let one : (x : Attempt) × (w.attempt core ≡ Some x) × (x.straight ≡ false) = runs_one w core (w.attempt core) refl runs in
      keeps.same core row one.0 one.1 one.2 (inr (or_parts (contains nat_cmp before row) (list_any (touches row) added) (sym (adds row) ∙ outside)).1);
}

-- ---- the cores one by one

-- those that are left are shown as they were
pub shows_still : (v : StoreView) (core : ℕ) (first cores : List (List (ℕ × KeptRow))) → kept_in cores core ≡ kept_in first core
    → ShowsKept v core (kept_in first core) → ShowsKept v core (kept_in cores core)
shows_still v core first cores same shows = subst (ShowsKept v core) (sym same) shows

pub shown_below : (v : StoreView) (core : ℕ) (cores new : List (List (ℕ × KeptRow))) → ((k : ℕ) → k < core → ShowsKept v k (kept_in cores k))
    → ((k : ℕ) → (k ≡ core → ⊥) → kept_in new k ≡ kept_in cores k) → ShowsKept v core (kept_in new core)
    → (k : ℕ) → k < core + 1 → ShowsKept v k (kept_in new k)
shown_below v core cores new shown others here k less =
    ⊎_elim
    (λ same. subst (λ (n : ℕ). ShowsKept v n (kept_in new n)) (sym same) here)
    (λ other. shows_still v k cores new (others k other) (shown k (omega arith)))
    (cases_eq k core)

-- one core more, which keeps nothing
pub next_core : (cores : List (List (ℕ × KeptRow))) (shown : List (ℕ × KeptRow)) (count : ℕ) → length cores ≡ count
    → ((v : StoreView) (k : ℕ) → k < count → IsClear v k → ShowsKept v k (kept_in cores k)) → ((v : StoreView) (core : ℕ) → IsClear v core → ShowsKept v core shown)
    → (v : StoreView) (k : ℕ) → k < count + 1 → IsClear v k → ShowsKept v k (kept_in (cores ++ shown ∷ []) k)
next_core cores shown count long all one v k less clear =
    ⊎_elim
    (λ same. subst (ShowsKept v k) (sym (get_or_push cores shown [] k (long ∙ sym same))) (one v k clear))
    (λ other. subst (ShowsKept v k) (sym (get_or_append_left cores (shown ∷ []) [] k (omega arith))) (all v k (omega arith) clear))
    (cases_eq k count)

-- ---- rows with own bytes

-- what was shown of a core that there is
pub found_core : (size : ℕ) (cores : List (List (ℕ × KeptRow))) (store : PlainView) (core : ℕ) (shown : List (ℕ × KeptRow)) → AreKept size cores store
    → core < length cores → shown ≡ kept_in cores core → ShowsKept (store_view store) core shown
found_core size cores store core shown are less is = subst (ShowsKept (store_view store) core) (sym is) (are.each core less)

at_row : (a : ℕ) → 16 * (a / 16) + a % 16 ≡ a
at_row a = omega arith

owns_row : (v : StoreView) (core a : ℕ) → v.own core a ≡ true → owns_in v core (a / 16) ≡ true
owns_row v core a own =
    ⊎_elim
    (λ is. is)
    (λ none. absurd (true≢false (sym own ∙ subst (λ (n : ℕ). v.own core n ≡ false) (at_row a) (not_owned v core (a / 16) none (a % 16) (omega arith)))))
    (cases_Bool (owns_in v core (a / 16)))

pub owned_row : (v : StoreView) (core a : ℕ) (before after : BTreeSet ℕ)
    → contains nat_cmp after (a / 16) ≡ (contains nat_cmp before (a / 16) || owns_in v core (a / 16)) → v.own core a ≡ true → contains nat_cmp after (a / 16) ≡ true
owned_row v core a before after is own = is ∙ or_right (contains nat_cmp before (a / 16)) (owns_in v core (a / 16)) (owns_row v core a own)

-- a core that there isn't has stored nothing
pub stored_none : (size : ℕ) (cores : List (List (ℕ × KeptRow))) (store : PlainView) (core a : ℕ) → AreKept size cores store
    → length cores ≤ core → (store_view store).own core a ≡ true → ⊥
stored_none size cores store core a are past own =
    let count : length cores ≡ length store.states = are.count in
    true≢false (sym own ∙ ap (λ state. is_some (own_in state a)) (slice_get_past store.states core (subst (λ n. n ≤ core) count past)))
