use Rattle.std.proofs.Common.{arith, subst, sym}
use Rattle.turn_steps.specs.Kept.{ShowsKept}
use Rattle.turn_steps.specs.KeptCores.{kept_in}
use Rattle.turn_steps.proofs.PlainCores.{next_core}
use Rattle.turn_steps.proofs.plain.no_rows.Goals as goal

pub loop-preserved : goal.loop-preserved
loop-preserved c = record {
  long = grind (arith, c.loop.invariant.long);
  shows = λ v k less clear. subst (λ cores. ShowsKept v k (kept_in cores k)) (sym c.in_ok-push.ensures.items)
      (next_core c.loop.shown.items c.new.result c.loop.counter c.loop.invariant.long c.loop.invariant.shows c.new.ensures v k less clear);
}
