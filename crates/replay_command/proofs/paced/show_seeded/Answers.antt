use Rattle.std.proofs.Common.{◌≡◌, ◌++◌, List, ℕ, ap, subst, ◌∙◌, rules}
use Rattle.homefree.specs.declared.fault.TurnFault.{TurnFault}
use Rattle.homefree.specs.declared.fault.TurnFault.TheVariants as fault
use Rattle.all_schedules.specs.Made.{the_loop}
use Rattle.all_schedules.specs.Drawn.{IsDrawnFault}
use Rattle.replay_command.specs.SurveyText.{turns_line}
use Rattle.replay_command.proofs.paced.show_seeded.Goals as goal

pub print_turns-requires-clause-same : goal.print_turns-requires-clause-same
print_turns-requires-clause-same g c κs within = c.in-Ok.ensures.made.loop

pub returns-in-Ok-print_turns : goal.returns-in-Ok-print_turns
returns-in-Ok-print_turns g c addresses =
    let made = c.in-Ok.ensures.made in
    let shown = c.in-Ok-print_turns.ensures in record {
      schedule = c.in-Ok.made.schedule.items;
      history = c.in-Ok.made.book.history;
      makes = (made.result, made.makes);
      below = shown.0;
      shown = shown.1;
      text_is = shown.2 ∙ ap (λ (s : List ℕ). turns_line s ++ shown.0) c.as_slice.ensures.value;
    }

pub returns-in-Err-HistoryFull : goal.returns-in-Err-HistoryFull
returns-in-Err-HistoryFull g c addresses =
    let is : c.in-Err-HistoryFull.field-0 ≡ fault.HistoryFull = search rules in
    subst (λ (f : TurnFault). IsDrawnFault g.S.EpochStore.starts g.S.EpochStore.makes g.S.EpochStore.view g.S.EpochStore.waits (the_loop c.args.on.now) c.args.seed f) is c.in-Err-HistoryFull.ensures.fault
