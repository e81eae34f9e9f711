-- The core states that the cores of the code stand for.
use Rattle.std.proofs.Common.{◌≡◌, ℕ, ◌+◌, ◌<◌, Bool, true, false, List, length, get_or, slice_get, Option, Some, None, refl, sym, ap, ◌∙◌, inl, inr, arith, not, is_some, option_map, option_and_then}
use Rattle.std.proofs.lemmas.Bool.{cases_eq}
use Rattle.std.proofs.lemmas.Option.{slice_get_read, same_Some}
use Rattle.memory_bytes.specs.Shadow.{byte_in}
use Rattle.spec_history.specs.declared.cores.FlatAttempt.{FlatAttempt}
use Rattle.spec_history.specs.declared.cores.Core.{Core}
use Rattle.spec_history.specs.FlatState.{CoreState}
use Rattle.spec_history.specs.Cores.{core_of, core_with}
use Rattle.spec_history.specs.Machine.{cores_of}

-- the core at a place of the list
pub core_there : (cores xs : List Core) (i : ℕ) (core : Core) → xs ≡ cores → i < length xs → core ≡ get_or xs i core → slice_get cores i ≡ Some core
core_there cores xs i core same below is = slice_get_read cores (length xs) i core (ap length same) below (is ∙ ap (λ ys. get_or ys i core) same)

pub state_there : (cores : List Core) (i : ℕ) (core : Core) → slice_get cores i ≡ Some core → cores_of cores i ≡ core_of core
state_there cores i core is = ap (option_and_then core_of) is

-- what holds below i, and at i, holds below i + 1
pub also_at : (test : ℕ → Bool) (i : ℕ) → ((k : ℕ) → k < i → test k ≡ false) → test i ≡ false → (k : ℕ) → k < i + 1 → test k ≡ false
also_at test i below here k more = elim (cases_eq k i) [
  | inl e ↦ ap test e ∙ here
  | inr other ↦ below k (omega arith)
]

pub idle_state : (core : Option CoreState) → not (is_some core) ≡ true → core ≡ None
idle_state None is = refl
idle_state (Some c) is = absurd cc

pub running_state : (core : Option CoreState) → not (is_some core) ≡ false → (c : CoreState) × (core ≡ Some c)
running_state None is = absurd cc
running_state (Some c) is = (c, refl)

by_attempt : (own outside : List (Option ℕ)) (attempt : Option FlatAttempt) (c : CoreState) → option_map (core_with own outside) attempt ≡ Some c
    → (t : FlatAttempt) × (attempt ≡ Some t) × (core_with own outside t ≡ c)
by_attempt own outside None c is = absurd cc
by_attempt own outside (Some t) c is = (t, refl, same_Some (core_with own outside t) c is)

-- a core that runs has an attempt
pub attempt_of : (core : Core) (c : CoreState) → core_of core ≡ Some c
    → (t : FlatAttempt) × (core.attempt ≡ Some t) × (core_with core.own.cells core.outside.cells t ≡ c)
attempt_of core c is = by_attempt core.own.cells core.outside.cells core.attempt c is

-- the own bytes of a core state are those that its core keeps
pub kept_own : (core : Core) (c : CoreState) → core_of core ≡ Some c → c.own ≡ byte_in core.own.cells
kept_own core c is = let found = attempt_of core c is in sym (ap (λ (x : CoreState). x.own) found.2)
