use Rattle.std.proofs.Common.{subst}
use Rattle.homefree.specs.Missed.{IsOfCaches}
use Rattle.run_command.specs.Options.{Options}
use Rattle.run_command.specs.Runnable.{IsRunnable}
use Rattle.run_command.proofs.Machines.{run_on_machine}
use Rattle.run_command.proofs.run.run_image.Goals as goal

pub returns-in-Some : goal.returns-in-Some
returns-in-Some g c =
    run_on_machine (IsOfCaches g.S.EpochStore.view) c.args.asked.machine c.args.image c.args.asked.options (g.W.Write.contents c.args.writer.now) (g.W.Write.contents c.run_runnable.new.writer)
    c.in-Some.image c.in-Some.ensures.is (subst (λ (o : Options). IsRunnable c.in-Some.image o.cores) c.options.view_is c.in-Some.ensures.can) c.run_runnable.result c.run_runnable.ensures
