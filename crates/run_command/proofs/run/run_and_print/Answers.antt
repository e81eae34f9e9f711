use Rattle.std.proofs.Common.{IfSome, sym, subst}
use Rattle.trace_commands.specs.declared.outcome.CommandStop.{CommandStop}
use Rattle.homefree.specs.Missed.{IsOfCaches}
use Rattle.core_threads.specs.Sentence.{Explains, HaltsWith}
use Rattle.run_command.specs.Options.{Options}
use Rattle.run_command.specs.Run.{IsStop, loop_asked}
use Rattle.run_command.proofs.Stopping.{may_stop}
use Rattle.run_command.proofs.run.run_and_print.Goals.{in-Some, in-None}
use Rattle.run_command.proofs.run.run_and_print.Goals as goal

pub returns-clause-stopped : goal.returns-clause-stopped
returns-clause-stopped g c =
    let view = g.S.EpochStore.view in
    let l = loop_asked c.args.image.now c.args.options in
    let run = c.in-Err.run' in
    let halted = subst (λ (o : Options). HaltsWith view (loop_asked c.args.image.now o) run.book run.fault run.counted) c.options.view_is c.in-Err.ensures.halted in
    let explained : IfSome run.book (Explains view) = elim c.match-run-2.branch [
      | in-Some w ↦ subst (λ o. IfSome o (Explains view)) (sym w.in-Some.is) w.history_is_explained-in-Some.ensures
      | in-None w ↦ subst (λ o. IfSome o (Explains view)) (sym w.in-None.is) tt
    ] in
    subst (λ (cause : CommandStop). IsStop (IsOfCaches view) l cause) (sym c.cause_of.ensures) (may_stop view l run.book run.fault run.counted halted explained)
