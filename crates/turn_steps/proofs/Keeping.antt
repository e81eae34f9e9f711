-- What was shown of what a core keeps, and what is shown next.
use Rattle.std.proofs.Common.{◌≡◌, ℕ, ◌/◌, ◌<◌, ◌==◌, ◌||◌, Bool, true, false, not, List, [], Option, Some, None, is_some, unwrap_or, refl, ap, sym, subst, ◌∙◌}
use Rattle.std.proofs.lemmas.Bool.{or_left, not-false}
use Rattle.std.specs.BTreeMap.{BTreeMap, get, keys}
use Rattle.std.specs.BTreeSet.{BTreeSet, contains}
use Rattle.std.specs.Ordering.{nat_cmp}
use Rattle.violations.specs.declared.attempt.Attempt.{Attempt}
use Rattle.violations.specs.View.{IsClear, IsSettled, StoreView}
use Rattle.turn_steps.specs.declared.kept_row.KeptRow.{KeptRow}
use Rattle.turn_steps.specs.Kept.{IsKeptBut, ShowsKept, is_speculative, kept_change, owns_in, row_at}
use Rattle.turn_steps.specs.KeptRow.{kept_of, kept_row_text, nothing}
use Rattle.turn_steps.specs.Passes.{IsAllShown, IsRestShown}
use Rattle.turn_steps.specs.Places.{changed}
use Rattle.turn_steps.specs.Rows.{kept_changes, kept_line, row_count, text_below}
use Rattle.turn_steps.proofs.Passes.{among, below_same}
use Rattle.turn_steps.proofs.Reading.{kept_clear, kept_same}

-- ---- entries

pub without_entries : (shown : List (ℕ × KeptRow)) → shown ≡ [] → (r : ℕ) → row_at shown r ≡ nothing
without_entries shown none r = ap (λ es. row_at es r) none

no_entry : (entry : Option KeptRow) → is_some entry ≡ false → unwrap_or entry nothing ≡ nothing
no_entry None outside = refl
no_entry (Some row) outside = cc

pub without_entry : (rows : BTreeMap ℕ KeptRow) (r : ℕ) → is_some (get nat_cmp rows r) ≡ false → row_at rows.entries r ≡ nothing
without_entry rows r outside = no_entry (get nat_cmp rows r) outside

-- nothing was shown of a row that isn't among the keys
pub outside_keys : (rows : BTreeMap ℕ KeptRow) (shown : List (ℕ × KeptRow)) (found : List ℕ) → rows.entries ≡ shown → found ≡ keys rows
    → ((r : ℕ) → is_some (get nat_cmp rows r) ≡ among found r) → (r : ℕ) → among (keys rows) r ≡ false → row_at shown r ≡ nothing
outside_keys rows shown found viewed are has r outside =
    ap (λ es. row_at es r) (sym viewed) ∙ without_entry rows r (has r ∙ ap (λ ks. among ks r) are ∙ outside)

-- ---- a core that isn't speculative

has_ended : (v : StoreView) (core : ℕ) (attempt : Option Attempt) → v.attempt core ≡ attempt → is_speculative attempt ≡ false → IsSettled v → IsClear v core
has_ended v core None runs ended settled = settled.idle core runs
has_ended v core (Some attempt) runs ended settled = settled.straight core attempt runs (not-false attempt.straight ended)

-- then it keeps nothing
pub is_clear : (v : StoreView) (core : ℕ) → is_speculative (v.attempt core) ≡ false → IsSettled v → IsClear v core
is_clear v core ended settled = has_ended v core (v.attempt core) refl ended settled

-- ---- the rows

counts : (old new : StoreView) (count : ℕ) → count ≡ row_count new → new.shape.size ≡ old.shape.size → count ≡ row_count old
counts old new count whole same = whole ∙ ap (λ n. n / 16) same

-- outside the rows that may be otherwise the core is shown to keep what it keeps
pub rest_of_kept : (rows : BTreeSet ℕ) (old new : StoreView) (core count : ℕ) (shown : List (ℕ × KeptRow)) → count ≡ row_count new
    → is_speculative (new.attempt core) ≡ true → ShowsKept old core shown → IsKeptBut rows old new core
    → IsRestShown rows count (row_at shown) (kept_of new core)
rest_of_kept rows old new core count shown whole runs shows but row less outside =
    let under : row < row_count old = subst (λ n. row < n) (counts old new count whole but.size) less in
    shows.row row under ∙ sym (kept_same old new core row (but.same runs row under outside))

-- the text is that of the changes, where this is what the core keeps
pub text_of_kept : (old new : StoreView) (core count : ℕ) (shown : List (ℕ × KeptRow)) (now : ℕ → KeptRow) → count ≡ row_count new → new.shape.size ≡ old.shape.size
    → ShowsKept old core shown → ((row : ℕ) → now row ≡ kept_of new core row)
    → text_below (λ row. kept_change core now row (row_at shown row)) count ≡ kept_changes core old new (row_count old)
text_of_kept old new core count shown now whole same shows is =
    ap (text_below (λ row. kept_change core now row (row_at shown row))) (counts old new count whole same)
    ∙ below_same (λ row. kept_change core now row (row_at shown row)) (λ row. changed (kept_line core old row) (kept_line core new row)) (row_count old)
    (λ row less. ap (kept_change core now row) (shows.row row less)
    ∙ ap (λ kept. changed (kept_row_text core row (kept_of old core row)) (kept_row_text core row kept)) (is row))

pub shows_kept : (v : StoreView) (core count : ℕ) (shown : List (ℕ × KeptRow)) → count ≡ row_count v → IsAllShown count (row_at shown) (kept_of v core) → ShowsKept v core shown
shows_kept v core count shown whole all = record { row = λ r less. all r (subst (λ n. r < n) (sym whole) less) }

pub shows_nothing : (v : StoreView) (core : ℕ) (shown : List (ℕ × KeptRow)) → ((r : ℕ) → row_at shown r ≡ nothing) → IsClear v core → ShowsKept v core shown
shows_nothing v core shown none clear = record { row = λ r less. none r ∙ sym (kept_clear v core r clear) }

-- ---- rows with own bytes

pub kept_rows : (before after more : ℕ → Bool) → ((r : ℕ) → after r ≡ (before r || more r)) → (r : ℕ) → before r ≡ true → after r ≡ true
kept_rows before after more all r is = all r ∙ or_left (before r) (more r) is

pub owned_rows : (old : StoreView) (core : ℕ) (shown : List (ℕ × KeptRow)) (before after : BTreeSet ℕ) → ShowsKept old core shown
    → ((r : ℕ) → contains nat_cmp after r ≡ (contains nat_cmp before r || not ((row_at shown r).own == 0)))
    → (row : ℕ) → row < row_count old → contains nat_cmp after row ≡ (contains nat_cmp before row || owns_in old core row)
owned_rows old core shown before after shows all row less =
    all row ∙ ap (λ (kept : KeptRow). contains nat_cmp before row || not (kept.own == 0)) (shows.row row less)
