use Rattle.std.proofs.Common.{ap, is_some, ◌∙◌}
use Rattle.run_ledger.specs.declared.counts.Counts.{Counts}
use Rattle.homefree.specs.Counted.{counted_in}
use Rattle.trace_text.specs.Printing.{printed_trace}
use Rattle.replay_command.proofs.Noting.{adds_as}
use Rattle.replay_command.proofs.survey.add_run.Goals as goal

pub returns-in-Ok-add-clause-added : goal.returns-in-Ok-add-clause-added
returns-in-Ok-add-clause-added g c =
    let step = c.look.ensures in
    let book = c.args.book.now in record {
      step = step;
      adds = adds_as c.args.place c.is_some-is_over.result (is_some step.state.end) c.totals.result.restarts (counted_in book.history).restarts c.in-Ok.trace.items
          (printed_trace c.args.cores book.history) c.args.survey.now c.add.new.self
          (c.is_some-is_over.ensures ∙ ap is_some (c.ended.ensures.end step.state step.replays))
          (ap (λ (n : Counts). n.restarts) (c.totals.ensures ∙ step.counted))
          (c.in-Ok.ensures.text ∙ ap (printed_trace c.args.cores) c.history.ensures)
          c.in-Ok-add.ensures;
    }
