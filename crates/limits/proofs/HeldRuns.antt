-- A run in which loads wait for stores in order never restarts.
use Rattle.std.proofs.Common.{◌≡◌, ℕ, refl, ap, ◌∙◌}
use Rattle.violations.specs.View.{StoreView, Waits as StoreWaits}
use Rattle.violations.specs.Calls.{Call}
use Rattle.rv32_image.specs.Image.{LoadedImage}
use Rattle.spec_history.specs.FlatState.{FlatState, first_state}
use Rattle.homefree.specs.declared.answer.Answer.TheVariants.{Go, Again, Left, Over}
use Rattle.even_speed.specs.declared.run.Ran.{Ran}
use Rattle.even_speed.specs.Clocks.{late_clocks}
use Rattle.even_speed.specs.Even.{Pace, Pacing, at_first, clocks_after, executed_by, restarts}
use Rattle.even_speed.specs.Pricing.{over_at}
use Rattle.limits.specs.Bound.{NeverWaits}
use Rattle.limits.specs.HeldBound.{HasNoCaches, RestartsNever}
use Rattle.limits.proofs.Lossless.{LosesNone, all_none, turn_none}
use Rattle.limits.proofs.QuietRuns.{Keeps, no_restarts, quiet_at_first, runs_to}

abbrev Lossless : LoadedImage → ℕ → FlatState → Pace → Type 0
Lossless image cores s p = (k : ℕ) → LosesNone (p.clocks k)

lossless : {S : Type 0} (paced : Pacing S) (view : S → StoreView) (waits : S → StoreWaits) (ran : Ran)
    → Keeps paced view waits ran Lossless (λ image cores. ran.account.lost ≡ 0)
lossless paced view waits ran = record {
  goes = λ old mid p t s u entries w hart is going none after moved.
      turn_none p.clocks paced.queues t (Go hart) (restarts old mid) (executed_by old.book.image (Go hart)) t.price.spent is.never none;
  waits_on = λ old mid p t s cause is going none waited.
      turn_none p.clocks paced.queues t (Again cause) (restarts old mid) (executed_by old.book.image (Again cause)) t.price.spent is.never none;
  leaves = λ old mid p t s u entries w is going none after committed.
      turn_none p.clocks paced.queues t Left (restarts old mid) (executed_by old.book.image Left) t.price.spent is.never none;
  ends = λ old mid p t s entries e is going none ended same.
      ap (λ (r : Ran). r.account.lost) same
      ∙ all_none (over_at p.free t.at t.price) (clocks_after old mid (late_clocks paced.queues p.clocks t) t (Over e)) old.book.cores
      (turn_none p.clocks paced.queues t (Over e) (restarts old mid) (executed_by old.book.image (Over e)) t.price.spent is.never none);
  was_over = λ old mid p t s e is over none same.
      ap (λ (r : Ran). r.account.lost) same
      ∙ all_none (over_at p.free t.at t.price) (clocks_after old mid (late_clocks paced.queues p.clocks t) t (Over e)) old.book.cores
      (turn_none p.clocks paced.queues t (Over e) (restarts old mid) (executed_by old.book.image (Over e)) t.price.spent is.never none);
}

pub restarts_never : {S : Type 0} (makes : S → Call → S → Type 0) (view : S → StoreView) (waits : S → StoreWaits) (keeps : S → Type 0) → NeverWaits waits → HasNoCaches view
    → RestartsNever makes view waits keeps
restarts_never makes view waits keeps never uncached paced old new schedule ran i none holds e =
    runs_to makes view waits keeps paced ran never uncached Lossless (λ image cores. ran.account.lost ≡ 0) (lossless paced view waits ran) schedule at_first old new
    (first_state old.book.image) (quiet_at_first view old.book i none) (λ k. refl) i.is_image holds (no_restarts view old.book i none) e
