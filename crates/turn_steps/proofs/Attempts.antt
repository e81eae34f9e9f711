-- How the lines of what the cores run go on.
use Rattle.std.proofs.Common.{◌≡◌, ℕ, suc, ◌+◌, ◌<◌, ◌≤◌, ◌==◌, Bool, true, false, List, ◌++◌, Option, Some, None, if◌then◌else◌, refl, ap, sym, ◌∙◌, arith, add-one, append_assoc}
use native.Mathlib.Decide.{dec_lt}
use Rattle.std.proofs.lemmas.Bool.Decides.{nat_tests}
use Rattle.std.proofs.lemmas.List.{append-nil}
use Rattle.violations.specs.declared.attempt.Attempt.{Attempt}
use Rattle.violations.specs.View.{StoreView, IsSettled}
use Rattle.turn_steps.specs.Places.{changed}
use Rattle.turn_steps.specs.Turns.{attempt_line}
use Rattle.turn_steps.specs.Stepped.{attempt_changes}

pub attempt_changes-none : (text : List ℕ) (old now : ℕ → Option Attempt) → text ≡ text ++ attempt_changes old now 0
unfolding attempt_changes
attempt_changes-none text old now = sym (append-nil text)

-- what a core adds
abbrev pub attempt_change : (ℕ → Option Attempt) → (ℕ → Option Attempt) → ℕ → List ℕ
attempt_change old now core = changed (attempt_line core (old core)) (attempt_line core (now core))

more : (old now : ℕ → Option Attempt) (core : ℕ) → attempt_changes old now (suc core) ≡ attempt_changes old now core ++ attempt_change old now core
unfolding attempt_changes
more old now core = refl

pub attempt_changes-more : (text : List ℕ) (old now : ℕ → Option Attempt) (core : ℕ)
    → (text ++ attempt_changes old now core) ++ attempt_change old now core ≡ text ++ attempt_changes old now (core + 1)
attempt_changes-more text old now core =
    append_assoc text (attempt_changes old now core) (attempt_change old now core)
    ∙ ap (λ l. text ++ l) (sym (more old now core) ∙ sym (ap (attempt_changes old now) (add-one core)))

-- ---- a list of attempts, core by core

module _ (old new v : ℕ → Option Attempt) (core : ℕ) (now : Option Attempt) (set : (k : ℕ) → new k ≡ (if k == core then now else old k)) where
  pub next_attempts : now ≡ v core → ((k : ℕ) → k < core → old k ≡ v k) → (k : ℕ) → k < core + 1 → new k ≡ v k
  next_attempts is done k below = set k ∙ at (k == core) refl
    where
      at : (b : Bool) → (k == core) ≡ b → (if b then now else old k) ≡ v k
      at true e = let here : k ≡ core = grind (arith, nat_tests) in is ∙ ap v (sym here)
      at false e = let before : k < core = grind (arith, nat_tests) in done k before

  pub no_others : ((k : ℕ) → core ≤ k → old k ≡ None) → (k : ℕ) → core + 1 ≤ k → new k ≡ None
  no_others rest k past = set k ∙ at (k == core) refl
    where
      at : (b : Bool) → (k == core) ≡ b → (if b then now else old k) ≡ None
      at true e = absurd (let here : k ≡ core = grind (arith, nat_tests) in omega (arith, past))
      at false e = rest k (omega (arith, past))

-- past the last core nothing runs
none_past : (v : StoreView) (k : ℕ) (o : Option Attempt) → v.attempt k ≡ o → IsSettled v → v.shape.cores ≤ k → o ≡ None
none_past v k None is settled past = refl
none_past v k (Some x) is settled past = absurd (let there = settled.there k x is in omega (arith, there, past))

pub all_attempts : (v : StoreView) (attempts : ℕ → Option Attempt) (count : ℕ) → IsSettled v → v.shape.cores ≡ count → ((k : ℕ) → k < count → attempts k ≡ v.attempt k)
    → ((k : ℕ) → count ≤ k → attempts k ≡ None) → (k : ℕ) → attempts k ≡ v.attempt k
all_attempts v attempts count settled cores done rest k = elim (dec_lt k count) [
  | yes there ↦ done k there
  | no past ↦
      let beyond : count ≤ k = omega (arith, past) in
      let past_all : v.shape.cores ≤ k = omega (arith, beyond, cores) in
      rest k beyond ∙ sym (none_past v k (v.attempt k) refl settled past_all)
]
