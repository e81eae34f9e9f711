-- How a history ends that turns make: the epochs past the exit are cancelled in the turn that ends the loop.
-- Source: this project.
use Rattle.std.specs.Prelude.{◌≡◌, ◌≢◌, ℕ, ◌<◌, List, Option, Some, None, slice_get}
use Rattle.rv32_exec.specs.declared.sequential.End.{End}
use Rattle.spec_history.specs.declared.entry.Entry.{Entry}
use Rattle.spec_history.specs.declared.entry.What.TheVariants.{Start, Cancel}

-- no epoch starts once one has been cancelled
abbrev pub NoneStartsAfterCancel : List Entry → Type 0
NoneStartsAfterCancel history = (place later by core cancelled started : ℕ) → slice_get history place ≡ Some (record { by = by; what = Cancel cancelled })
    → slice_get history later ≡ Some (record { by = core; what = Start started }) → later < place

-- where one has been, the loop is over
abbrev pub IsOverAfterCancel : List Entry → Option End → Type 0
IsOverAfterCancel history end = (place by cancelled : ℕ) → slice_get history place ≡ Some (record { by = by; what = Cancel cancelled }) → end ≢ None
