-- What the conditions of calls ask, core by core.
use Rattle.std.specs.Prelude.{◌≡◌, ◌≢◌, ◌≤◌, ◌<◌, ℕ, Bool, true, false, Some}
use Rattle.violations.specs.declared.attempt.Attempt.{Attempt}
use Rattle.violations.specs.View.{StoreView}

-- where the test passes, this holds
abbrev pub IfSo : Bool → Type 0 → Type 0
IfSo true fact = fact
IfSo false fact = Unit {0}

-- core k runs another epoch than this one, and no later one where it is straight
pub record IsApart (view : StoreView) (epoch k : ℕ) : Type 0 where
  pub new : (x : Attempt) → view.attempt k ≡ Some x → x.epoch ≢ epoch
  pub after_straight : (x : Attempt) → view.attempt k ≡ Some x → x.straight ≡ true → x.epoch < epoch

-- core k runs no epoch before this one
pub record IsNotBefore (view : StoreView) (epoch k : ℕ) : Type 0 where
  pub first : (x : Attempt) → view.attempt k ≡ Some x → epoch ≤ x.epoch
