-- What a core runs.
use Rattle.std.proofs.Common.{◌≡◌, ℕ, Bool, Some, ap, ◌∙◌}
use Rattle.violations.specs.declared.attempt.Attempt.{Attempt}
use Rattle.violations.specs.View.{StoreView, Runs, attempt_of}

pub runs_of : (v : StoreView) (core : ℕ) (straight : Bool) (a : Attempt) → v.attempt core ≡ Some a → a.straight ≡ straight → Runs v core straight
runs_of v core straight a at is = record { epoch = a.epoch; is = at ∙ ap (λ s. Some (attempt_of a.epoch s)) is }
