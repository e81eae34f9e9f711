-- What a run of an image came to, from what its run on the machine that is asked for came to.
use Rattle.std.proofs.Common.{◌≡◌, ℕ, Bool, List, Option, ap, ◌∙◌, subst}
use Rattle.rv32_image.specs.Image.{LoadedImage}
use Rattle.homefree.specs.declared.book.Loop.{Loop}
use Rattle.trace_commands.specs.declared.outcome.Outcome.{Outcome}
use Rattle.trace_commands.specs.declared.outcome.Outcome.TheVariants.{Reported, Usage, Stopped}
use Rattle.trace_commands.specs.declared.outcome.CommandStop.TheVariants.{Write, NoMemory, HistoryFull, NoThread, Spent, Shut}
use Rattle.trace_commands.specs.declared.store.MachineAsked.{MachineAsked}
use Rattle.trace_commands.specs.Stores.{machine_with, on_machine}
use Rattle.run_command.specs.declared.options.RunOptions.{RunOptions}
use Rattle.run_command.specs.Run.{IsRun, loop_asked}
use Rattle.run_command.specs.Runnable.{IsRunnable}
use Rattle.run_command.specs.Threads.{IsMachineOutcome, loop_on_machine}
use Rattle.run_command.proofs.AnyMachine.{sequential_same}
use Rattle.run_command.proofs.Printing.{printed_on}

module _ (OfCaches : Type 0) (asked : MachineAsked) (image : LoadedImage) where
  run_on : (l : Loop) (trace : Bool) (old new : Option (List ℕ)) (outcome : Outcome) → IsRun OfCaches (on_machine asked image) l trace old new outcome
      → IsRun OfCaches image l trace old new outcome
  run_on l trace old new (Reported end) is =
      (is.0 ∙ ap (λ r. r.end) (sequential_same image (machine_with asked image.machine)), is.1, printed_on OfCaches asked image l trace is.1 is.2, is.3)
  run_on l trace old new (Stopped Write) is = (is.0, printed_on OfCaches asked image l trace is.0 is.1, is.2)
  run_on l trace old new (Stopped NoMemory) is = is
  run_on l trace old new (Stopped HistoryFull) is = is
  run_on l trace old new (Stopped NoThread) is = is
  run_on l trace old new (Stopped Spent) is = is
  run_on l trace old new (Stopped Shut) is = is
  run_on l trace old new other is = absurd is

  module _ (options : RunOptions) (old new : Option (List ℕ)) where
    can : (outcome : Outcome) → IsRunnable (on_machine asked image) options.cores
        → IsRun OfCaches image (loop_on_machine asked image options) options.trace old new outcome → IsMachineOutcome OfCaches asked options old new image outcome
    can Usage runs is = absurd is
    can outcome runs is = (runs, is)

    pub run_on_machine : (on : LoadedImage) → on ≡ on_machine asked image → IsRunnable on options.cores
        → (outcome : Outcome) → IsRun OfCaches on (loop_asked on options) options.trace old new outcome → IsMachineOutcome OfCaches asked options old new image outcome
    run_on_machine on same runs outcome is =
        can outcome (subst (λ (i : LoadedImage). IsRunnable i options.cores) same runs)
        (run_on (loop_on_machine asked image options) options.trace old new outcome
        (subst (λ (i : LoadedImage). IsRun OfCaches i (loop_asked i options) options.trace old new outcome) same is))
