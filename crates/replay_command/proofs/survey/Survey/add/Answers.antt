use Rattle.std.proofs.Common.{Some, refl, ap, ◌∙◌}
use Rattle.replay_command.specs.declared.survey.Survey.{Survey}
use Rattle.replay_command.specs.Adding.{IsNoted}
use Rattle.all_schedules.specs.Schedules.{lists_of}
use Rattle.replay_command.proofs.Noting.{adds_open, adds_over, is_noted}
use Rattle.replay_command.proofs.survey.Survey.add.Goals as goal
use Rattle.replay_command.proofs.survey.Survey.add.Goals.{then-is_over, else-is_over}

pub returns : goal.returns
returns c =
    let noted : IsNoted (lists_of c.if-is_over.self.traces.keys) (lists_of c.insert.new.self.keys) c.args.trace.items =
    is_noted c.if-is_over.self.traces.keys c.insert.new.self.keys c.args.trace c.in_ok-insert.ensures.keys c.in_ok-insert.ensures.ordered in
    elim c.if-is_over.branch [
      | then-is_over w ↦
          adds_over c.args.place c.args.restarts c.args.trace.items c.args.self.now c.if-is_over.self _ c.args.is_over w.if-is_over.true
          (ap (λ (s : Survey). s.over) w.self-is) (ap (λ (s : Survey). s.traces) w.self-is)
          (ap (λ (s : Survey). s.least) w.self-is ∙ ap Some w.lesser.ensures) (ap (λ (s : Survey). s.most) w.self-is ∙ ap Some w.greater.ensures)
          refl refl refl noted
      | else-is_over w ↦
          adds_open c.args.place c.args.restarts c.args.trace.items c.args.self.now c.if-is_over.self _ c.args.is_over w.if-is_over.false w.self-is refl refl refl noted
    ]
