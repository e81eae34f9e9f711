-- The turns of a schedule and their text, one after another.
use Rattle.std.proofs.Common.{◌≡◌, ◌≢◌, ℕ, suc, ◌+◌, ◌<◌, List, [], ◌∷◌, ◌++◌, length, get_or, take, drop, Option, Some, None, Result, Ok, Err, refl, sym, ap, subst, ◌∙◌, add-one, append_assoc, take-append-drop}
use Rattle.std.proofs.Math.Path.{fun_ext}
use Rattle.std.proofs.lemmas.List.{append-nil, drop_more, take_more}
use Rattle.rv32_exec.specs.declared.sequential.End.{End}
use Rattle.rv32_exec.specs.Hart.{HartState}
use Rattle.violations.specs.View.{StoreView, Waits}
use Rattle.violations.specs.Calls.{Call}
use Rattle.homefree.specs.declared.answer.Answer.{Answer}
use Rattle.homefree.specs.declared.answer.Answer.TheVariants.{Go, Again, Left, Over, Stopped}
use Rattle.homefree.specs.declared.answer.StopCause.{StopCause}
use Rattle.homefree.specs.declared.fault.TurnFault.{TurnFault}
use Rattle.homefree.specs.declared.fault.TurnFault.TheVariants.{HistoryFull, NoMemory}
use Rattle.homefree.specs.Driven.{Driver, EndsOrGoes, TurnedWith, held_after, with_held}
use Rattle.turn_steps.specs.Stepped.{IsTold, Stepped}

-- ---- the cores of a list up to a place

-- what was taken, and the rest, are all
pub all_taken : (xs : List ℕ) (i : ℕ) → i < length xs → take i xs ++ get_or xs i 0 ∷ drop (i + 1) xs ≡ xs
all_taken xs i there = ap (λ r. take i xs ++ r) (sym (drop_more xs i 0 there)) ∙ take-append-drop i xs

-- one more is taken
pub one_taken : (xs rest : List ℕ) (i : ℕ) → i < length xs → take i xs ++ get_or xs i 0 ∷ rest ≡ take (i + 1) xs ++ rest
one_taken xs rest i there = sym (ap (λ t. t ++ rest) (take_more xs i 0 there) ∙ append_assoc (take i xs) (get_or xs i 0 ∷ []) rest)

-- ---- a turn more

module _ {S : Type 0} (makes : S → Call → S → Type 0) (view : S → StoreView) (waits : S → Waits) (changes : ℕ → S → S → List ℕ) (harts : ℕ → Option HartState) (mid next : Driver S) (core i : ℕ)
    (sofar first : List ℕ) (P : List ℕ → Option End → Driver S → List ℕ → Type 0)
    (steps : (rest : List ℕ) (end : Option End) (new : Driver S) (below : List ℕ) → Stepped makes view waits changes i harts mid rest end new below → P rest end new (sofar ++ below)) where
  by_turn : (answer : Answer) (rest : List ℕ) (end : Option End) (new : Driver S) (below : List ℕ) → TurnedWith makes view waits mid core (harts core) (Ok answer) next
      → IsTold view changes i core answer (harts core) mid.book next.book first
      → EndsOrGoes (Ok answer) (λ r. (new ≡ next) × (r ≡ Ok end) × (below ≡ []))
      (λ a. Stepped makes view waits changes (suc i) (with_held harts core (held_after a (harts core))) next rest end new below)
      → P (core ∷ rest) end new (sofar ++ first ++ below)
  by_turn answer rest end new below turned told more =
      subst (P (core ∷ rest) end new) (sym (append_assoc sofar first below)) (steps (core ∷ rest) end new (first ++ below) (next, answer, first, below, turned, told, refl, more))

  pub tells_over : (answer : Answer) (end : End) (rest : List ℕ) → answer ≡ Over end → TurnedWith makes view waits mid core (harts core) (Ok answer) next
      → IsTold view changes i core answer (harts core) mid.book next.book first → P (core ∷ rest) (Some end) next (sofar ++ first)
  tells_over answer end rest is turned told =
      subst (P (core ∷ rest) (Some end) next) (append-nil (sofar ++ first))
      (by_turn (Over end) rest (Some end) next [] (subst (λ a. TurnedWith makes view waits mid core (harts core) (Ok a) next) is turned)
      (subst (λ a. IsTold view changes i core a (harts core) mid.book next.book first) is told) (refl, refl, refl))

  pub tells_stopped : (answer : Answer) (cause : StopCause) (rest : List ℕ) → answer ≡ Stopped cause → TurnedWith makes view waits mid core (harts core) (Ok answer) next
      → IsTold view changes i core answer (harts core) mid.book next.book first → P (core ∷ rest) None next (sofar ++ first)
  tells_stopped answer cause rest is turned told =
      subst (P (core ∷ rest) None next) (append-nil (sofar ++ first))
      (by_turn (Stopped cause) rest None next [] (subst (λ a. TurnedWith makes view waits mid core (harts core) (Ok a) next) is turned)
      (subst (λ a. IsTold view changes i core a (harts core) mid.book next.book first) is told) (refl, refl, refl))

  more_by : (answer : Answer) (rest : List ℕ) (end : Option End) (new : Driver S) (below : List ℕ) → ((over : End) → answer ≢ Over over) → ((cause : StopCause) → answer ≢ Stopped cause)
      → Stepped makes view waits changes (suc i) (with_held harts core (held_after answer (harts core))) next rest end new below
      → EndsOrGoes (Ok answer) (λ r. (new ≡ next) × (r ≡ Ok end) × (below ≡ []))
      (λ a. Stepped makes view waits changes (suc i) (with_held harts core (held_after a (harts core))) next rest end new below)
  more_by (Go hart) rest end new below going unstopped d = d
  more_by (Again cause) rest end new below going unstopped d = d
  more_by Left rest end new below going unstopped d = d
  more_by (Over over) rest end new below going unstopped d = absurd (going over refl)
  more_by (Stopped cause) rest end new below going unstopped d = absurd (unstopped cause refl)

  pub tells_on : (answer : Answer) (harts' : ℕ → Option HartState) → ((over : End) → answer ≢ Over over) → ((cause : StopCause) → answer ≢ Stopped cause)
      → ((k : ℕ) → harts' k ≡ with_held harts core (held_after answer (harts core)) k) → TurnedWith makes view waits mid core (harts core) (Ok answer) next
      → IsTold view changes i core answer (harts core) mid.book next.book first
      → (rest : List ℕ) (end : Option End) (new : Driver S) (below : List ℕ) → Stepped makes view waits changes (i + 1) harts' next rest end new below
      → P (core ∷ rest) end new (sofar ++ first ++ below)
  tells_on answer harts' going unstopped same turned told rest end new below d =
      by_turn answer rest end new below turned told (more_by answer rest end new below going unstopped
      (subst (λ (n : ℕ). Stepped makes view waits changes n (with_held harts core (held_after answer (harts core))) next rest end new below) (add-one i)
      (subst (λ (h : ℕ → Option HartState). Stepped makes view waits changes (i + 1) h next rest end new below) (fun_ext same) d)))

-- ---- a turn that finds too few free entries

abbrev failed : TurnFault → Result Answer TurnFault
failed fault = Err fault

pub full_fault : {S : Type 0} (makes : S → Call → S → Type 0) (view : S → StoreView) (waits : S → Waits) (mid next : Driver S) (core : ℕ) (harts : ℕ → Option HartState) (fault : TurnFault) → fault ≡ HistoryFull
    → (failed fault ≢ failed NoMemory → TurnedWith makes view waits mid core (harts core) (failed fault) next) → TurnedWith makes view waits mid core (harts core) (failed HistoryFull) next
full_fault makes view waits mid next core harts HistoryFull is turned = turned (λ no. absurd cc)
full_fault makes view waits mid next core harts NoMemory is turned = absurd cc
