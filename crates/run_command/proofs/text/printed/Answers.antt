use Rattle.std.proofs.Common.{◌≡◌, ◌++◌, IfOk, ap, subst, sym, ◌∙◌}
use Rattle.std.proofs.lemmas.Bool.{not-false}
use Rattle.std.proofs.lemmas.Result.{IfOk-weaker}
use Rattle.homefree.specs.Missed.{IsOfCaches}
use Rattle.core_threads.specs.Sentence.{Finishes}
use Rattle.trace_text.specs.Laws.{AreEntries}
use Rattle.trace_text.specs.Printing.{printed_trace}
use Rattle.run_command.specs.Options.{Options}
use Rattle.run_command.specs.Run.{IsPrinted, counts_line, loop_asked}
use Rattle.run_command.proofs.Printing.{both_ok, printed_traced}
use Rattle.run_command.proofs.text.printed.Goals as goal

pub returns : goal.returns
returns g c =
    let view = g.S.EpochStore.view in
    let image = c.args.image.now in
    let options : Options = record { cores = c.options.inside.cores; room = c.options.inside.room; trace = c.options.inside.trace } in
    let run = c.args.run.now in
    let finishes = subst (λ (o : Options). Finishes view (loop_asked image o) run.book run.end run.totals run.counted) (sym c.options.view_is) c.requires.finishes in
    let report = c.in_ok-report.report.items in
    let above = report ++ counts_line run.counted in
    let history = c.history.result.now in
    subst (λ (o : Options). IfOk c.with_history.result (λ text. IsPrinted (IsOfCaches view) image (loop_asked image o) o.trace text.items)) c.options.view_is
    (IfOk-weaker c.with_history.result (λ text. (text.items ≡ above ++ printed_trace options.cores history) × AreEntries history) (λ text. IsPrinted (IsOfCaches view) image (loop_asked image options) options.trace text.items)
    (λ text is. printed_traced view image options run.book run.end run.totals run.counted finishes c.requires.explained report text.items
    (subst AreEntries c.history.ensures is.1) (not-false options.trace c.if-not-options.false) c.in_ok-report.ensures
    (is.0 ∙ ap (λ h. above ++ printed_trace options.cores h) c.history.ensures))
    (both_ok c.with_history.result (λ text. text.items ≡ above ++ printed_trace options.cores history) (AreEntries history) c.with_history.ensures.text c.with_history.ensures.numbers))
