use Rattle.std.proofs.Common.{◌+◌, ap, sym, subst, ◌∙◌}
use Rattle.all_schedules.specs.Schedules.{AreAllSchedules, lists_of}
use Rattle.all_schedules.specs.Longer.{longer}
use Rattle.all_schedules.proofs.Every.{all_more}
use Rattle.all_schedules.proofs.schedules.every_schedule.Goals as goal

pub loop-turn-preserved : goal.loop-turn-preserved
loop-turn-preserved c =
    let cores = c.args.cores in
    subst (AreAllSchedules cores (c.loop-turn._turn + 1)) (sym (c.in_ok-all.ensures ∙ ap (λ l. longer cores (lists_of l)) c.as_slice.ensures.value))
    (all_more cores c.loop-turn._turn (lists_of c.loop-turn.all.items) c.loop-turn.invariant)
