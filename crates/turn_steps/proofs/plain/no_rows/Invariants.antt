use Rattle.std.proofs.Common.{◌≡◌, ◌<◌, ℕ, length}
use Rattle.violations.specs.View.{IsClear, StoreView}
use Rattle.turn_steps.specs.Kept.{ShowsKept}
use Rattle.turn_steps.specs.KeptCores.{kept_in}
use Rattle.turn_steps.proofs.plain.no_rows.Given as goal

-- the cores so far
abbrev pub invariant-loop : goal.invariant-loop
invariant-loop l = record {
  long : length l.shown.items ≡ l.counter;
  shows : (v : StoreView) (k : ℕ) → k < l.counter → IsClear v k → ShowsKept v k (kept_in l.shown.items k);
}
