-- Conditions of calls, from those of each core.
use Rattle.std.proofs.Common.{◌≡◌, ◌<◌, ℕ, Bool, true, false, not, Some, None, refl, ap, ◌∙◌}
use Rattle.violations.specs.declared.attempt.Attempt.{Attempt}
use mathlib.Core.Bool.{beq}
use Rattle.violations.specs.View.{StoreView, IsSettled, Runs, MayBegin, MayPublish, attempt_of}
use Rattle.machine_tests.specs.Checked.{IsApart, IsNotBefore}

pub runs_is : (view : StoreView) (core : ℕ) (x : Attempt) (straight : Bool) → view.attempt core ≡ Some x → x.straight ≡ straight
    → Runs view core straight
runs_is view core x straight at e = record { epoch = x.epoch; is = at ∙ ap (λ b. Some (attempt_of x.epoch b)) e }

pub begins_is : (view : StoreView) (core epoch : ℕ) → IsSettled view → core < view.shape.cores → view.attempt core ≡ None
    → ((k : ℕ) → k < view.shape.cores → IsApart view epoch k) → MayBegin view core epoch
begins_is view core epoch settled there idle each =
    record {
      there = there;
      idle = idle;
      new = λ k x at. (each k (settled.there k x at)).new x at;
      after_straight = λ k x at. (each k (settled.there k x at)).after_straight x at;
    }

pub publishes_is : (view : StoreView) (core : ℕ) (y : Attempt) → IsSettled view → view.attempt core ≡ Some y → y.straight ≡ false
    → ((k : ℕ) → k < view.shape.cores → IsNotBefore view y.epoch k) → MayPublish view core
publishes_is view core y settled at straight each =
    record {
      epoch = y.epoch;
      is = at ∙ ap (λ b. Some (attempt_of y.epoch b)) straight;
      first = λ k x e. (each k (settled.there k x e)).first x e;
    }

pub same_bool : (x y : Bool) → not (beq x y) ≡ false → x ≡ y
same_bool true true e = refl
same_bool true false e = cc
same_bool false true e = cc
same_bool false false e = refl
