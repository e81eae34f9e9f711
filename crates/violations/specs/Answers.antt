-- What a store answers to a speculative access.
use Rattle.std.specs.Prelude.{ℕ, Bool, Option, Some, None}
use Rattle.violations.specs.declared.step.Step.{Step}
use Rattle.violations.specs.declared.step.Step.TheVariants.{Done, Wait}
use Rattle.violations.specs.declared.step.WaitCause.{WaitCause}
use Rattle.violations.specs.CoreSet.{is_in}

-- where it was done, this holds of the value and of the cores that were violated; where it waits, that
abbrev pub MatchStep : Step → (ℕ → (ℕ → Bool) → Type 0) → Type 0 → Type 0
MatchStep (Done value hurt) done waits = done value (is_in hurt)
MatchStep (Wait cause) done waits = waits

-- why it waits, where it does
abbrev pub wait_of : Step → Option WaitCause
wait_of (Done value hurt) = None
wait_of (Wait cause) = Some cause
