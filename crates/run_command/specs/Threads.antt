-- What a run on threads comes to over any store and on any machine, and what it wrote.
-- Source: this project.
use Rattle.std.specs.Prelude.{ℕ, List, Option}
use Rattle.std.specs.Io.KnownBytes.{Keeps}
use Rattle.rv32_image.specs.Image.{LoadedImage}
use Rattle.homefree.specs.declared.book.Loop.{Loop}
use Rattle.trace_commands.specs.declared.outcome.Outcome.{Outcome}
use Rattle.trace_commands.specs.declared.outcome.Outcome.TheVariants.{Usage}
use Rattle.trace_commands.specs.declared.store.MachineAsked.{MachineAsked}
use Rattle.trace_commands.specs.Stores.{on_machine}
use Rattle.run_command.specs.declared.options.RunOptions.{RunOptions}
use Rattle.run_command.specs.Run.{IsOutcomeOf, IsRun, loop_asked}
use Rattle.run_command.specs.Runnable.{IsRunnable, IsUnrunnable}

-- the loop that a run is asked for, on the machine that is asked for
abbrev pub loop_on_machine : MachineAsked → LoadedImage → RunOptions → Loop
loop_on_machine asked image options = loop_asked (on_machine asked image) options

-- what a run of an image came to, which it may be that can't be run so
abbrev pub IsMachineOutcome : Type 0 → MachineAsked → RunOptions → Option (List ℕ) → Option (List ℕ) → LoadedImage → Outcome → Type 0
IsMachineOutcome OfCaches asked options old new image Usage = IsUnrunnable asked image options.cores × Keeps old new
IsMachineOutcome OfCaches asked options old new image outcome =
    IsRunnable (on_machine asked image) options.cores × IsRun OfCaches image (loop_on_machine asked image options) options.trace old new outcome

-- what a run on threads came to is right for this input, and this was written
abbrev pub IsThreadsOutcome : Type 0 → MachineAsked → RunOptions → List ℕ → Option (List ℕ) → Option (List ℕ) → Outcome → Type 0
IsThreadsOutcome OfCaches asked options text old new outcome = IsOutcomeOf (IsMachineOutcome OfCaches asked options old new) text old new outcome
