-- A small fact of what a hart does.
use Rattle.std.proofs.Common.{◌≡◌, ℕ, Bool}
use Rattle.rv32_exec.specs.declared.stop.Stop.TheVariants as stop
use Rattle.rv32_exec.specs.Execute.{Effect, Stops}

pub no_store_at_load : (e : Effect) (address width : ℕ) (signed : Bool) (rd address' width' value' : ℕ) → e ≡ Stops (stop.Load address width signed rd)
    → e ≡ Stops (stop.Store address' width' value') → ⊥
no_store_at_load e address width signed rd address' width' value' is is' = cc
