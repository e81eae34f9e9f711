-- Small facts of what a core has in hand, and of a store that never has a core wait.
use Rattle.std.proofs.Common.{◌≡◌, ℕ, Bool, Option, Some, None, if◌then◌else◌, refl, ap, eq-eqb}
use Rattle.rv32_exec.specs.declared.stop.Stop.{Stop}
use Rattle.rv32_exec.specs.declared.stop.Stop.TheVariants as stop
use Rattle.rv32_exec.specs.Arrival.{Arrival}
use Rattle.rv32_exec.specs.Hart.{HartState}
use Rattle.violations.specs.declared.step.WaitCause.{WaitCause}
use Rattle.violations.specs.View.{never_waits}
use Rattle.homefree.specs.Driven.{with_held}
use Rattle.homefree.specs.Turned.{IsHandedIn, IsStale, wait_at}

-- an arrival that is stale isn't handed in
pub stale_not : (next : Option Arrival) (hart : HartState) → IsStale next hart → IsHandedIn next hart → ⊥
stale_not None hart stale handed = handed
stale_not (Some arrival) hart stale handed = stale handed

-- a core has in hand what it was given
pub held_here : (held : ℕ → Option HartState) (core : ℕ) (now : Option HartState) → with_held held core now core ≡ now
held_here held core now = ap (λ (b : Bool). if b then now else held core) (eq-eqb core core refl)

-- where nothing waits, no access does
pub wait_never : (core : ℕ) (at : Stop) (cause : WaitCause) → wait_at never_waits core at ≡ Some cause → ⊥
wait_never core (stop.Load address width signed rd) cause is = absurd cc
wait_never core (stop.Store address width value) cause is = absurd cc
wait_never core stop.Ended cause is = absurd cc
wait_never core (stop.Fault cause' pc) cause is = absurd cc
