-- That no run at even speed comes to the end of its loop in fewer steps than the limit, whatever loads are held, whatever turns cost.
-- Source: this project.
use Rattle.std.specs.Prelude.{◌≡◌, ℕ, ◌≤◌, List, [], Some, Ok}
use Rattle.violations.specs.View.{StoreView, Waits as StoreWaits, never_waits}
use Rattle.violations.specs.Calls.{Call}
use Rattle.homefree.specs.Driven.{Driver}
use Rattle.homefree.specs.InStep.{InStep}
use Rattle.even_speed.specs.declared.run.Ran.{Ran}
use Rattle.even_speed.specs.Even.{Evenly, Pacing, at_first}
use Rattle.limits.specs.declared.limit.Waits.{Waits}
use Rattle.limits.specs.Limits.{IsLimit}

-- a run that begins with an empty history takes these steps at least
abbrev pub IsBelowRuns : {S : Type 0} → Waits → (S → Call → S → Type 0) → (S → StoreView) → (S → StoreWaits) → (S → Type 0) → Type 0
IsBelowRuns {S} kind makes view waits keeps = (paced : Pacing S) (old new : Driver S) (schedule : List ℕ) (ran : Ran) (steps : ℕ)
    → InStep view old.book → old.book.history ≡ [] → Evenly makes view waits keeps paced at_first old schedule (Ok (Some ran)) new
    → IsLimit old.book.image kind old.book.cores steps → steps ≤ ran.steps

-- no access waits: so what an epoch stores is committed as it commits
abbrev pub NeverWaits : {S : Type 0} → (S → StoreWaits) → Type 0
NeverWaits {S} waits = (store : S) → waits store ≡ never_waits
