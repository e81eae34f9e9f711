use Rattle.std.proofs.Common.{None, sym, ap, ◌∙◌, if◌then◌else◌}
use Rattle.spec_history.specs.View.{state_in}
use Rattle.conflict_findings.specs.declared.ended.Ending.TheVariants.{Cancelled}
use Rattle.conflict_findings.specs.Ends.{ended_as}
use Rattle.conflict_findings.proofs.Seeking.{cancelled_is}
use Rattle.conflict_findings.proofs.ending.cancelled.Goals as goal

pub returns-then-is_violated : goal.returns-then-is_violated
returns-then-is_violated c =
    let s = state_in c.args.flat.now in
    let image = c.args.flat.now.image in
    sym (ap (λ b. if b then None else ended_as image c.args.entries.now s c.args.place Cancelled c.args.by c.in_ok-core.core) c.if-is_violated.true)
    ∙ cancelled_is image c.args.cores s c.args.entries.now c.args.place c.args.by c.args.epoch c.in_ok-core.core c.in_ok-runner.runner c.is_violated.result
    c.in_ok-core.ensures.first c.in_ok-runner.ensures c.is_violated.ensures c.requires.marked

pub returns : goal.returns
returns c =
    let s = state_in c.args.flat.now in
    let image = c.args.flat.now.image in
    c.ended_as.ensures c.args.entries.now c.requires.followed
    ∙ (sym (ap (λ b. if b then None else ended_as image c.args.entries.now s c.args.place Cancelled c.args.by c.in_ok-core.core) c.if-is_violated.false)
    ∙ cancelled_is image c.args.cores s c.args.entries.now c.args.place c.args.by c.args.epoch c.in_ok-core.core c.in_ok-runner.runner c.is_violated.result
    c.in_ok-core.ensures.first c.in_ok-runner.ensures c.is_violated.ensures c.requires.marked)
