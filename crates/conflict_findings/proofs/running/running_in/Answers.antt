use Rattle.std.proofs.Common.{◌∙◌}
use Rattle.spec_history.specs.View.{state_in}
use Rattle.conflict_findings.proofs.Growing.{none_running, running_more}
use Rattle.conflict_findings.proofs.running.running_in.Goals as goal

pub loop-core-init : goal.loop-core-init
loop-core-init c = c.new-running.ensures.items ∙ none_running c.args.flat.now.image c.args.entries.now (state_in c.args.flat.now)

pub loop-core-preserved : goal.loop-core-preserved
loop-core-preserved c =
    running_more c.args.flat.now.image c.args.entries.now (state_in c.args.flat.now) c.loop-core.core c.running_at.result c.loop-core.running.items c.keep.new.running.items
    c.running_at.ensures c.loop-core.invariant c.in_ok-keep.ensures
