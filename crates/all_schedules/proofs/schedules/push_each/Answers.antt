use Rattle.std.proofs.Common.{[], ◌∷◌, ◌++◌, ap, sym, ◌∙◌}
use Rattle.std.proofs.lemmas.List.{append-nil}
use Rattle.all_schedules.specs.Schedules.{lists_of}
use Rattle.all_schedules.proofs.Every.{going_on-none, push_more}
use Rattle.all_schedules.proofs.schedules.push_each.Goals as goal

pub loop-core-init : goal.loop-core-init
loop-core-init c =
    let made = lists_of c.args.made.now.items in
    sym (ap (λ l. made ++ l) (going_on-none c.args.schedule.now) ∙ append-nil made)

pub loop-core-preserved : goal.loop-core-preserved
loop-core-preserved c =
    push_more c.args.made.now.items c.loop-core.made.items c.push-in-loop-core.new.self.items c.args.schedule.now c.loop-core.core c.push.new.self c.loop-core.invariant
    (c.in_ok-push.ensures.items ∙ ap (λ l. l ++ c.loop-core.core ∷ []) c.in_ok-next.ensures.items) c.in_ok-push-2.ensures.items
