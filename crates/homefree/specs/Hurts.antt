-- The entries of a turn that hurts or cancels other cores, and the states that they lead to.
use Rattle.std.specs.Prelude.{ℕ, zero, suc, ◌==◌, ◌&&◌, not, Bool, true, false, List, [], ◌∷◌, ◌++◌, Option, Some, None, is_some, if◌then◌else◌}
use Rattle.spec_history.specs.declared.entry.Entry.{Entry}
use Rattle.spec_history.specs.declared.entry.What.{What}
use Rattle.spec_history.specs.declared.entry.What.TheVariants.{Hurt, Cancel}
use Rattle.spec_history.specs.FlatState.{CoreState, FlatState}
use Rattle.spec_history.specs.Effect.{by_core}

abbrev pub entry : ℕ → What → List Entry
entry by what = record { by = by; what = what } ∷ []

-- an entry for each of these cores below n, in order of core number
abbrev pub entry_for_each : ℕ → (ℕ → Bool) → (ℕ → What) → ℕ → List Entry
entry_for_each by these what zero = []
entry_for_each by these what (suc n) = entry_for_each by these what n ++ (if these n then entry by (what n) else [])

-- the epoch of each core that runs one
abbrev pub epoch_on : (ℕ → Option CoreState) → ℕ → ℕ
epoch_on cores k = by_core (cores k) 0 (λ c. c.epoch)

-- ---- cores that a call of the store violates

-- one entry for each, with the epoch that the core runs
abbrev pub hurts : ℕ → FlatState → ℕ → (ℕ → Bool) → List Entry
hurts count s by hurt = entry_for_each by hurt (λ k. Hurt (epoch_on s.cores k)) count

abbrev pub hurt_if : Bool → Option CoreState → Option CoreState
hurt_if true None = None
hurt_if true (Some c) = Some (record c { hurt = true })
hurt_if false core = core

-- the state with these cores hurt
abbrev pub with_hurts : (ℕ → Bool) → FlatState → FlatState
with_hurts hurt s = record s { cores = λ k. hurt_if (hurt k) (s.cores k) }

-- ---- cores whose epochs are past the loop's exit

-- another core that runs an epoch, hurt or not
abbrev pub is_other : (ℕ → Option CoreState) → ℕ → ℕ → Bool
is_other cores by k = not (k == by) && is_some (cores k)

-- one entry for each, with the epoch that the core runs
abbrev pub cancels : ℕ → FlatState → ℕ → List Entry
cancels count s by = entry_for_each by (is_other s.cores by) (λ k. Cancel (epoch_on s.cores k)) count

abbrev pub idle_if : Bool → Option CoreState → Option CoreState
idle_if true core = None
idle_if false core = core

-- the state in which the core alone runs
abbrev pub with_cancels : ℕ → FlatState → FlatState
with_cancels by s = record s { cores = λ k. idle_if (is_other s.cores by k) (s.cores k) }
