-- The entries of a turn, and of a history with them: no epoch starts once one has been cancelled.
use Rattle.std.proofs.Common.{◌≡◌, ◌≢◌, ◌⊎◌, ℕ, zero, suc, ◌≤◌, Bool, true, false, cond, All, List, [], ◌∷◌, ◌++◌, length, slice_get, Option, Some, None, refl, sym, subst, ◌∙◌, inl, inr, arith}
use Rattle.std.proofs.lemmas.Bool.{cases_lt}
use Rattle.std.proofs.lemmas.List.Elements.{All-nil, All-cons, All-append, All-head, All-tail}
use Rattle.rv32_exec.specs.declared.sequential.End.{End}
use Rattle.rv32_image.proofs.SmallFacts.{one_value}
use Rattle.spec_history.specs.declared.entry.Entry.{Entry}
use Rattle.spec_history.specs.declared.entry.What.{What}
use Rattle.spec_history.specs.declared.entry.What.TheVariants.{Start, Cancel}
use Rattle.spec_history.specs.FlatState.{CoreState}
use Rattle.spec_history.proofs.Replay.Staying.{there}
use Rattle.violations.specs.View.{StoreView}
use Rattle.homefree.specs.declared.answer.Answer.{Answer}
use Rattle.homefree.specs.Ending.{IsOverAfterCancel, NoneStartsAfterCancel}
use Rattle.homefree.specs.Hurts.{entry, entry_for_each, hurts}
use Rattle.homefree.specs.Turned as turn
use Rattle.homefree.specs.Turned.{Turn, Outcome, does, publish_of}

abbrev pub is_cancel : What → Bool
is_cancel (Cancel epoch) = true
is_cancel what = false

abbrev pub is_start : What → Bool
is_start (Start epoch) = true
is_start what = false

-- no entry is of this kind
abbrev pub HasNo : (What → Bool) → List Entry → Type 0
HasNo kind entries = All (λ (e : Entry). kind e.what ≡ false) entries

-- ---- lists

none_of : (kind : What → Bool) → HasNo kind []
none_of kind = All-nil (λ (e : Entry). kind e.what ≡ false)

one_of : (kind : What → Bool) (by : ℕ) (what : What) → kind what ≡ false → HasNo kind (entry by what)
one_of kind by what isnt = All-cons (λ (e : Entry). kind e.what ≡ false) (record { by = by; what = what }) [] isnt (none_of kind)

both_of : (kind : What → Bool) (first later : List Entry) → HasNo kind first → HasNo kind later → HasNo kind (first ++ later)
both_of kind first later one two = All-append (λ (e : Entry). kind e.what ≡ false) first later one two

if_of : (kind : What → Bool) (by : ℕ) (b : Bool) (what : What) → kind what ≡ false → HasNo kind (cond b (entry by what) [])
if_of kind by true what isnt = one_of kind by what isnt
if_of kind by false what isnt = none_of kind

each_of : (kind : What → Bool) (by : ℕ) (these : ℕ → Bool) (what : ℕ → What) (n : ℕ) → ((k : ℕ) → kind (what k) ≡ false) → HasNo kind (entry_for_each by these what n)
each_of kind by these what zero isnt = none_of kind
each_of kind by these what (suc n) isnt =
    both_of kind (entry_for_each by these what n) (cond (these n) (entry by (what n)) []) (each_of kind by these what n isnt) (if_of kind by (these n) (what n) (isnt n))

then_of : (kind : What → Bool) (by : ℕ) (these : ℕ → Bool) (what : ℕ → What) (n : ℕ) (last : What) → ((k : ℕ) → kind (what k) ≡ false) → kind last ≡ false
    → HasNo kind (entry_for_each by these what n ++ entry by last)
then_of kind by these what n last isnt end = both_of kind (entry_for_each by these what n) (entry by last) (each_of kind by these what n isnt) (one_of kind by last end)

-- ---- the entries of a turn

are : (kind : What → Bool) (out : Outcome) (entries : List Entry) (answer : Answer) → out ≡ does entries answer → HasNo kind entries → HasNo kind out.entries
are kind out entries answer is all = subst (λ (o : Outcome). HasNo kind o.entries) (sym is) all

published : (t : Turn) (b : Bool) (hurt : ℕ → Bool) (what : What) → is_cancel what ≡ false → HasNo is_cancel (cond b [] (hurts t.cores t.state t.core hurt ++ entry t.core what))
published t true hurt what isnt = none_of is_cancel
published t false hurt what isnt = then_of is_cancel t.core hurt _ t.cores what (λ k. refl) isnt

straight : (t : Turn) (c : CoreState) (first hurt : ℕ → Bool) (what : What) → is_cancel what ≡ false
    → HasNo is_cancel (publish_of t c first ++ (hurts t.cores t.state t.core hurt ++ entry t.core what))
straight t c first hurt what isnt = both_of is_cancel (publish_of t c first) _ (published t c.straight first _ refl) (then_of is_cancel t.core hurt _ t.cores what (λ k. refl) isnt)

follows : (t : Turn) (v w : StoreView) (out : Outcome) → turn.Follows t v w out → HasNo is_cancel out.entries ⊎ turn.IsExit t v w out
follows t v w out (turn.loads l) = inl (are is_cancel out _ _ l.out_is (then_of is_cancel t.core l.hurt _ t.cores _ (λ k. refl) refl))
follows t v w out (turn.stores l) = inl (are is_cancel out _ _ l.out_is (then_of is_cancel t.core l.hurt _ t.cores _ (λ k. refl) refl))
follows t v w out (turn.waits l) = inl (are is_cancel out _ _ l.out_is (none_of is_cancel))
follows t v w out (turn.loads_straight l) = inl (are is_cancel out _ _ l.out_is (straight t l.core l.first l.hurt _ refl))
follows t v w out (turn.stores_straight l) = inl (are is_cancel out _ _ l.out_is (straight t l.core l.first l.hurt _ refl))
follows t v w out (turn.is_early l) = inl (are is_cancel out _ _ l.out_is (none_of is_cancel))
follows t v w out (turn.commits l) = inl (are is_cancel out _ _ l.out_is (then_of is_cancel t.core l.hurt _ t.cores _ (λ k. refl) refl))
follows t v w out (turn.exits_loop l) = inr l
follows t v w out (turn.faults l) = inl (are is_cancel out _ _ l.out_is (then_of is_cancel t.core l.hurt _ t.cores _ (λ k. refl) refl))

-- none cancels, but an exit
pub cancels_at_exit : (t : Turn) (v w : StoreView) (out : Outcome) → turn.Acts t v w out → HasNo is_cancel out.entries ⊎ turn.IsExit t v w out
cancels_at_exit t v w out (turn.starts l) = inl (are is_cancel out _ _ l.out_is (one_of is_cancel t.core _ refl))
cancels_at_exit t v w out (turn.finds_none l) = inl (are is_cancel out _ _ l.out_is (none_of is_cancel))
cancels_at_exit t v w out (turn.restarts l) = inl (are is_cancel out _ _ l.out_is (one_of is_cancel t.core _ refl))
cancels_at_exit t v w out (turn.is_told l) = inl (are is_cancel out _ _ l.out_is (none_of is_cancel))
cancels_at_exit t v w out (turn.follows l) = follows t v w out l

-- and an exit starts none
pub exit_starts_none : (t : Turn) (v w : StoreView) (out : Outcome) → turn.IsExit t v w out → HasNo is_start out.entries
exit_starts_none t v w out l = are is_start out _ _ l.out_is
    (both_of is_start (hurts t.cores t.state t.core l.hurt) _ (each_of is_start t.core l.hurt _ t.cores (λ k. refl)) (then_of is_start t.core _ _ t.cores _ (λ k. refl) refl))

-- ---- a history with these entries more

-- an entry past the first ones is none of this kind
isnt_past : (kind : What → Bool) (entries more : List Entry) (place : ℕ) (e : Entry) → HasNo kind more → length entries ≤ place → slice_get (entries ++ more) place ≡ Some e → kind e.what ≡ false
isnt_past kind [] [] place e all from at = absurd cc
isnt_past kind [] (x ∷ more) zero e all from at =
    subst (λ (y : Entry). kind y.what ≡ false) (one_value (Some x) x e refl at) (All-head (λ (y : Entry). kind y.what ≡ false) x more all)
isnt_past kind [] (x ∷ more) (suc place) e all from at = isnt_past kind [] more place e (All-tail (λ (y : Entry). kind y.what ≡ false) x more all) (omega arith) at
isnt_past kind (x ∷ entries) more zero e all from at = absurd (omega (arith, from))
isnt_past kind (x ∷ entries) more (suc place) e all from at = isnt_past kind entries more place e all (omega (arith, from)) at

-- what a turn adds: nothing is cancelled, or nothing starts and the loop is over
abbrev pub AddsToEnd : List Entry → Option End → Type 0
AddsToEnd more end = HasNo is_cancel more ⊎ (HasNo is_start more × (end ≢ None))

module _ (entries more : List Entry) (before after : Option End) (going : before ≡ None) (over : IsOverAfterCancel entries before) (adds : AddsToEnd more after) where
  -- a cancellation is one of the new entries
  is_new : (place by cancelled : ℕ) → slice_get (entries ++ more) place ≡ Some (record { by = by; what = Cancel cancelled }) → length entries ≤ place
  is_new place by cancelled at = elim (cases_lt place (length entries)) [
    | inl early ↦ absurd (over place by cancelled (sym (there entries more place early) ∙ at) going)
    | inr late ↦ late
  ]

  exits : (place by cancelled : ℕ) → slice_get (entries ++ more) place ≡ Some (record { by = by; what = Cancel cancelled }) → HasNo is_start more × (after ≢ None)
  exits place by cancelled at = by_kind adds
    where
      by_kind : AddsToEnd more after → HasNo is_start more × (after ≢ None)
      by_kind (inl none) = let isnt = isnt_past is_cancel entries more place (record { by = by; what = Cancel cancelled }) none (is_new place by cancelled at) at in absurd cc
      by_kind (inr both) = both

  pub over_grown : IsOverAfterCancel (entries ++ more) after
  over_grown place by cancelled at = (exits place by cancelled at).1

  pub starts_grown : NoneStartsAfterCancel entries → NoneStartsAfterCancel (entries ++ more)
  starts_grown starts place later by core cancelled started at begun = elim (cases_lt later (length entries)) [
    | inl early ↦ (let late = is_new place by cancelled at in omega (arith, early, late))
    | inr past ↦ (let isnt = isnt_past is_start entries more later (record { by = core; what = Start started }) (exits place by cancelled at).0 past begun in absurd cc)
  ]

pub none_cancelled : (end : Option End) → IsOverAfterCancel [] end
none_cancelled end place by cancelled at = absurd cc

pub none_started : NoneStartsAfterCancel []
none_started place later by core cancelled started at begun = absurd cc
