-- Lists of runs that grow by one number.
use Rattle.std.proofs.Common.{◌≡◌, ℕ, zero, suc, ◌+◌, ◌<◌, ◌≤◌, List, [], ◌++◌, Option, None, option_to_list, refl, sym, ap, ◌∙◌, inl, inr, arith, add-one}
use Rattle.std.proofs.lemmas.Bool.{cases_eq}
use Rattle.std.proofs.lemmas.List.{append-nil, append_assoc}
use Rattle.conflict_findings.specs.declared.run.Run.{Run}
use Rattle.conflict_findings.specs.Runs.{runs_below}

pub none_below : (runs : ℕ → Option Run) → runs_below 0 runs ≡ []
unfolding runs_below
none_below runs = refl

one_below : (n : ℕ) (runs : ℕ → Option Run) → runs_below (suc n) runs ≡ runs_below n runs ++ option_to_list (runs n)
unfolding runs_below
one_below n runs = refl

skipped : (n : ℕ) (runs : ℕ → Option Run) → runs n ≡ None → runs_below (suc n) runs ≡ runs_below n runs
skipped n runs none = one_below n runs ∙ (ap (λ o. runs_below n runs ++ option_to_list o) none ∙ append-nil (runs_below n runs))

-- where there are none between, those below the one are those below the other
pub runs_past : (from n : ℕ) (runs : ℕ → Option Run) → from ≤ n → ((j : ℕ) → from ≤ j → j < n → runs j ≡ None) → runs_below n runs ≡ runs_below from runs
runs_past from zero runs most none = ap (λ k. runs_below k runs) (omega (arith, most))
runs_past from (suc n) runs most none = elim (cases_eq from (suc n)) [
  | inl e ↦ ap (λ k. runs_below k runs) (sym e)
  | inr other ↦ skipped n runs (none n (omega (arith, most, other)) (omega arith)) ∙ runs_past from n runs (omega (arith, most, other)) (λ j after below. none j after (omega (arith, below)))
]

-- where there is none at all
pub no_runs : (n : ℕ) (runs : ℕ → Option Run) → ((j : ℕ) → j < n → runs j ≡ None) → runs_below n runs ≡ []
no_runs n runs none = runs_past 0 n runs (omega arith) (λ j after below. none j below) ∙ none_below runs

-- the next one is told
pub one_more : (from found : ℕ) (runs : ℕ → Option Run) (first old new : List Run) → from ≤ found → ((j : ℕ) → from ≤ j → j < found → runs j ≡ None)
    → old ≡ first ++ runs_below from runs → new ≡ old ++ option_to_list (runs found) → new ≡ first ++ runs_below (found + 1) runs
one_more from found runs first old new after none before grown =
    grown
    ∙ (ap (λ xs. xs ++ option_to_list (runs found)) (before ∙ ap (λ xs. first ++ xs) (sym (runs_past from found runs after none)))
    ∙ (append_assoc first (runs_below found runs) (option_to_list (runs found))
    ∙ ap (λ xs. first ++ xs) (sym (ap (λ k. runs_below k runs) (add-one found) ∙ one_below found runs))))

-- the next one is told, and none up to another
pub told_past : (from found next : ℕ) (runs : ℕ → Option Run) (first old new : List Run) → from ≤ found → ((j : ℕ) → from ≤ j → j < found → runs j ≡ None)
    → old ≡ first ++ runs_below from runs → new ≡ old ++ option_to_list (runs found) → found < next → ((j : ℕ) → found < j → j < next → runs j ≡ None) → new ≡ first ++ runs_below next runs
told_past from found next runs first old new after none before grown past rest =
    one_more from found runs first old new after none before grown
    ∙ ap (λ xs. first ++ xs) (sym (runs_past (found + 1) next runs (omega (arith, past)) (λ j above below. rest j (omega (arith, above)) below)))

-- all are told
pub told_all : (from size : ℕ) (runs : ℕ → Option Run) (first items : List Run) → from ≤ size → ((j : ℕ) → from ≤ j → j < size → runs j ≡ None) → items ≡ first ++ runs_below from runs
    → items ≡ first ++ runs_below size runs
told_all from size runs first items most none told = told ∙ ap (λ xs. first ++ xs) (sym (runs_past from size runs most none))
