-- A history that has a violation has an explanation.
use Rattle.std.proofs.Common.{◌≡◌, ℕ, zero, suc, ◌<◌, ◌++◌, Bool, true, false, cond, List, [], ◌∷◌, length, None, refl, sym, ap, ◌∙◌, inl, inr, arith}
use Rattle.std.proofs.lemmas.Bool.{cases_eq}
use Rattle.spec_history.specs.declared.entry.Entry.{Entry}
use Rattle.spec_history.specs.Conflict.{entry_is, is_hurt, passes}
use Rattle.dependences.proofs.Histories.{there_below}
use Rattle.conflicts.specs.declared.explanation.Explanation.{Explanation}
use Rattle.conflicts.specs.Explained.{places_of, violations_before}
use Rattle.never_or_shown.specs.Violation.{HasViolation}
use Rattle.depends.specs.Shown.{IsFirst}

no_end : (xs : List ℕ) (n : ℕ) → xs ++ n ∷ [] ≡ [] → ⊥
no_end [] n is = cc
no_end (x ∷ xs) n is = cc

abbrev hurts : List Entry → ℕ → Bool
hurts entries place = entry_is entries place (λ entry. is_hurt entry.what)

-- a place below the end that has a violation is among them
some_before : (entries : List Entry) (n place : ℕ) → place < n → hurts entries place ≡ true → violations_before entries n ≡ [] → ⊥
unfolding violations_before
some_before entries zero place below is none = omega (arith, below)
some_before entries (suc n) place below is none = by_test (λ less. some_before entries n place less is) (hurts entries n) refl none
  where
    by_test : (place < n → violations_before entries n ≡ [] → ⊥) → (b : Bool) → hurts entries n ≡ b → cond b (violations_before entries n ++ n ∷ []) (violations_before entries n) ≡ [] → ⊥
    by_test earlier true here empty = no_end (violations_before entries n) n empty
    by_test earlier false here empty = elim (cases_eq place n) [
      | inl e ↦ (let same : hurts entries place ≡ hurts entries n = ap (hurts entries) e in cc)
      | inr other ↦ earlier (omega (arith, below, other)) empty
    ]

-- so there is a first explanation
pub none_first : (entries : List Entry) (found : List Explanation) → places_of found ≡ violations_before entries (length entries) → HasViolation entries → IsFirst found None → ⊥
none_first entries [] places v first =
    some_before entries (length entries) v.place (there_below entries v.place v.entry v.at) (ap (λ o. passes o (λ entry. is_hurt entry.what)) v.at ∙ v.violates) (sym places)
none_first entries (x ∷ xs) places v first = cc
