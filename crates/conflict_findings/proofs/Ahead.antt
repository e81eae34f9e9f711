-- The end of an attempt that was found before is still ahead.
use Rattle.std.proofs.Common.{◌≡◌, ℕ, ◌<◌, ◌≤◌, ◌&&◌, Bool, true, false, nat_lt, List, length, Option, Some, None, get_or, All, IfSome, sym, ap, subst, ◌∙◌, inl, inr, arith, lt-ltb, le-ltb}
use Rattle.std.proofs.lemmas.Bool.{cases_order}
use Rattle.std.proofs.lemmas.List.Elements.{All-get_or}
use Rattle.std.proofs.Math.ListN.{get_or-eq_default}
use Rattle.spec_history.specs.declared.entry.Entry.{Entry}
use Rattle.spec_history.specs.Conflict.{entry_is}
use Rattle.spec_history.specs.Searches.{first_below}
use Rattle.spec_history.proofs.Searches.Tests.{first_at, first_none, none_first, first_found}
use Rattle.conflicts.specs.declared.explanation.Explanation.{Explanation}
use Rattle.conflicts.specs.declared.explanation.Runner.{Runner}
use Rattle.conflicts.specs.Fates.{first_after, is_over, over_at}
use Rattle.conflict_findings.specs.declared.known_ends.KnownEnd.{KnownEnd}
use Rattle.conflict_findings.specs.KnownEnds.{IsKnownEnd}

-- ---- an end that is still ahead

-- a later place hides no more
hidden : (p q k : ℕ) (b : Bool) → p ≤ q → (nat_lt p k && b) ≡ false → (nat_lt q k && b) ≡ false
hidden p q k b later fails = elim (cases_order q k) [
  | inl same ↦ ap (λ c. c && b) (le-ltb q k (omega (arith, same)))
  | inr apart ↦ elim apart [
    | inl before ↦ ap (λ c. c && b) (lt-ltb q k before) ∙ (sym (ap (λ c. c && b) (lt-ltb p k (omega (arith, before, later)))) ∙ fails)
    | inr past ↦ ap (λ c. c && b) (le-ltb q k (omega (arith, past)))
  ]
]

shown : (p q k : ℕ) (b : Bool) → q < k → (nat_lt p k && b) ≡ true → p ≤ q → (nat_lt q k && b) ≡ true
shown p q k b ahead passes later =
    ap (λ c. c && b) (lt-ltb q k ahead) ∙ (sym (ap (λ c. c && b) (lt-ltb p k (omega (arith, ahead, later)))) ∙ passes)

-- a search from a later place, before what was found, finds the same
pub still_ahead : (n p q : ℕ) (test : ℕ → Bool) (at : Option ℕ) → at ≡ first_below n (λ j. nat_lt p j && test j) → p ≤ q → IfSome at (λ j. q < j)
    → at ≡ first_below n (λ j. nat_lt q j && test j)
still_ahead n p q test None is later ahead =
    let none = none_first n (λ j. nat_lt p j && test j) (sym is) in
    sym (first_none n (λ j. nat_lt q j && test j) (λ k below. hidden p q k (test k) later (none k below)))
still_ahead n p q test (Some k) is later ahead =
    let one = first_found n (λ j. nat_lt p j && test j) k (sym is) in
    sym (first_at n (λ j. nat_lt q j && test j) k one.within (shown p q k (test k) ahead one.passes later) (λ j below. hidden p q j (test j) later (one.first j below)))

-- ---- what is kept in slots

pub at_slot : {X : Type 0} (P : X → Type 0) (slots : List (Option X)) (i : ℕ) (x : X) → All (λ slot. IfSome slot P) slots → get_or slots i None ≡ Some x → P x
at_slot P slots i x all is = elim (cases_order i (length slots)) [
  | inl end ↦ absurd (let none : get_or slots i None ≡ None = get_or-eq_default slots None (omega (arith, end)) in cc)
  | inr apart ↦ elim apart [
    | inl below ↦ subst (λ slot. IfSome slot P) is (All-get_or (λ slot. IfSome slot P) slots i None below all)
    | inr past ↦ absurd (let none : get_or slots i None ≡ None = get_or-eq_default slots None (omega (arith, past)) in cc)
  ]
]

same_runner : (a b : Runner) → a.core ≡ b.core → a.epoch ≡ b.epoch → a ≡ b
same_runner a b core epoch =
    let one : Runner → ℕ → Runner = λ r c. record { core = c; epoch = r.epoch } in
    let other : ℕ → ℕ → Runner = λ c n. record { core = c; epoch = n } in
    ap (λ c. other c a.epoch) core ∙ ap (λ n. other b.core n) epoch

-- the end that was found before is that of this violation's attempt
pub same_end : (entries : List Entry) (n : KnownEnd) (e : Explanation) → IsKnownEnd entries n → n.runner.core ≡ e.causer.core → n.runner.epoch ≡ e.causer.epoch
    → n.place ≤ e.place → IfSome n.at (λ at. e.place < at) → n.at ≡ over_at entries e
same_end entries n e was core epoch later ahead =
    let same = same_runner n.runner e.causer core epoch in
    let there = subst (λ (r : Runner). n.at ≡ first_after entries n.place (is_over r)) same was in
    still_ahead (length entries) n.place e.place (λ j. entry_is entries j (is_over e.causer)) n.at there later ahead
