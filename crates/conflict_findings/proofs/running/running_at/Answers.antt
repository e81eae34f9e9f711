use Rattle.std.proofs.Common.{length, Some, refl, ap, ◌∙◌}
use Rattle.std.proofs.lemmas.Bool.{or_left, or_right, or_from}
use Rattle.spec_history.specs.View.{state_in}
use Rattle.conflicts.specs.Attempts.{attempt_number}
use Rattle.conflict_findings.specs.Ends.{is_faulted}
use Rattle.conflict_findings.proofs.Seeking.{ended_so, goes_on}
use Rattle.conflict_findings.proofs.running.running_at.Goals as goal
use Rattle.conflict_findings.proofs.running.running_at.Goals.{then-is_violated-via-then-is_violated, then-is_violated-via-else-is_violated+then-is_faulted}

pub returns-then-is_violated : goal.returns-then-is_violated
returns-then-is_violated c =
    let s = state_in c.args.flat.now in
    let r = c.in_ok-runner.runner in
    elim c.then-is_violated.branch [
      | then-is_violated-via-then-is_violated w ↦
          ended_so c.args.flat.now.image s c.args.entries.now (length c.args.entries.now) c.args.core r c.is_violated.result (is_faulted s.end r.epoch)
          c.in_ok-runner.ensures c.is_violated.ensures refl c.requires.marked (or_left c.is_violated.result _ w.if-is_violated.true)
      | then-is_violated-via-else-is_violated+then-is_faulted w ↦
          ended_so c.args.flat.now.image s c.args.entries.now (length c.args.entries.now) c.args.core r c.is_violated.result w.is_faulted.result
          c.in_ok-runner.ensures c.is_violated.ensures (w.is_faulted.ensures ∙ ap (λ e. is_faulted e r.epoch) w.ended.ensures) c.requires.marked (or_right c.is_violated.result _ w.if-is_faulted.true)
    ]

pub returns : goal.returns
returns c =
    let s = state_in c.args.flat.now in
    let r = c.in_ok-runner.runner in
    ap (λ n. Some (record { runner = r; attempt = n; done = c.in_ok-done.done }))
    (c.attempt_number.ensures c.args.entries.now c.requires.followed.is ∙ ap (attempt_number c.args.entries.now c.args.core) c.requires.followed.noted)
    ∙ goes_on c.args.flat.now.image s c.args.entries.now (length c.args.entries.now) c.args.core c.in_ok-done.done r c.is_violated.result c.is_faulted.result
    c.in_ok-runner.ensures c.is_violated.ensures (c.is_faulted.ensures ∙ ap (λ e. is_faulted e r.epoch) c.ended.ensures) c.requires.marked
    (or_from c.is_violated.result c.is_faulted.result c.if-is_violated.false c.if-is_faulted.false) c.in_ok-done.ensures
