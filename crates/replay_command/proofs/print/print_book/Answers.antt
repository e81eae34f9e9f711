use Rattle.std.proofs.Common.{◌++◌, ap, subst, ◌∙◌}
use Rattle.homefree.specs.declared.book.Loop.{Loop}
use Rattle.trace_text.specs.Laws.{AreEntries}
use Rattle.run_command.specs.Run.{counts_line}
use Rattle.trace_text.specs.Printing.{printed_trace}
use Rattle.replay_command.proofs.Shows.{shown}
use Rattle.replay_command.proofs.print.print_book.Goals as goal

pub returns : goal.returns
returns g c =
    let cores = c.args.on.now.cores in
    let report = c.in_ok-shown.shown.1.items in
    shown g.S.EpochStore.view c.args.on.now.image.now cores c.args.book.now c.in_ok-shown.shown.0 report c.in_ok-text.text.items c.look.ensures (ap (λ (l : Loop). l.image) c.requires.same) (ap (λ (l : Loop). l.cores) c.requires.same)
    (subst AreEntries c.history.ensures c.in_ok-text.ensures.numbers)
    c.in_ok-shown.ensures.outcome c.in_ok-shown.ensures.report
    (c.in_ok-text.ensures.text ∙ (λ k. report ++ counts_line (c.totals.ensures k) ++ printed_trace cores (c.history.ensures k)))

pub report_of-requires-clause-image : goal.report_of-requires-clause-image
report_of-requires-clause-image g c κs within = ap (λ (l : Loop). l.image) c.requires.same
