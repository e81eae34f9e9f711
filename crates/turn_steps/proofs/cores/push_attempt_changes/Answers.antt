use Rattle.std.proofs.Common.{◌++◌, ap, ◌∙◌}
use Rattle.turn_steps.specs.Stepped.{attempt_in}
use Rattle.turn_steps.proofs.Attempts.{attempt_change, attempt_changes-none, attempt_changes-more}
use Rattle.turn_steps.proofs.cores.push_attempt_changes.Goals as goal

pub loop-core-init : goal.loop-core-init
loop-core-init c = attempt_changes-none c.args.text.now.items (attempt_in c.args.old.now) (attempt_in c.args.now.now)

pub loop-core-preserved : goal.loop-core-preserved
loop-core-preserved c =
    let old = attempt_in c.args.old.now in
    let now = attempt_in c.args.now.now in
    c.in_ok-push_attempt_change.ensures
    ∙ (ap (λ t. t ++ attempt_change old now c.loop-core.core) c.loop-core.invariant
    ∙ attempt_changes-more c.args.text.now.items old now c.loop-core.core)
