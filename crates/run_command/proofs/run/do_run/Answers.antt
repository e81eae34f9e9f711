use Rattle.std.proofs.Common.{refl}
use Rattle.homefree.specs.Missed.{IsOfCaches}
use Rattle.spec_bus.specs.Cached.{store_view}
use Rattle.trace_commands.specs.Outcome.{Conclusion}
use Rattle.trace_commands.specs.Stores.{nothing_asked}
use Rattle.run_command.specs.Run.{RunAnswers}
use Rattle.run_command.specs.Threads.{IsThreadsOutcome}
use Rattle.run_command.proofs.Outcomes.{for_text, run_answers}
use Rattle.run_command.proofs.run.do_run.Goals as goal

pub returns-clause-outcome : goal.returns-clause-outcome
returns-clause-outcome g c =
    let old = g.W.Write.contents c.args.writer.now in
    let new = g.W.Write.contents c.do_threads.new.writer in
    let errors = g.E.Write.contents c.args.errors.now in
    let errors' = g.E.Write.contents c.do_threads.new.errors in
    let status = c.do_threads.result in
    for_text (g.R.Read.remaining c.args.reader.now)
    (λ text. Conclusion (IsThreadsOutcome (IsOfCaches store_view) nothing_asked c.args.options text old new) errors errors' status)
    (λ text. RunAnswers c.args.options text old new errors errors' status)
    (λ text. run_answers (IsOfCaches store_view) (λ store. refl) c.args.options text old new errors errors' status) c.do_threads.ensures.outcome
