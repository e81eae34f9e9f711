-- What the law of runs says.
use Rattle.std.specs.Prelude.{◌≡◌, ℕ, ◌≤◌, List, ◌++◌, codes, Ok}
use Rattle.rv32_image.specs.Image.{LoadedImage}
use Rattle.rv32_image.specs.ImageText.{image_text}
use Rattle.spec_history.specs.declared.entry.Entry.{Entry}
use Rattle.violations.specs.Rule.{IsCoreCount}
use Rattle.trace_text.specs.Printing.{printed_trace}
use Rattle.trace_commands.specs.declared.store.MachineAsked.{MachineAsked}
use Rattle.trace_commands.specs.Laws.{IsFoundLegal}
use Rattle.run_command.specs.declared.options.RunOptions.{RunOptions}
use Rattle.run_command.specs.Run.{IsWholeHistory}
use Rattle.run_command.specs.Threads.{loop_on_machine}

-- an image text that ends in a line feed, with the trace below it that a run on any machine printed, is read as the history, and found
-- legal
abbrev pub TracedRunIsLegal : Type 0
TracedRunIsLegal =
    (lines : List ℕ) (image : LoadedImage) (asked : MachineAsked) (options : RunOptions) (history : List Entry)
    → image_text (lines ++ codes "\n") ≡ Ok image → IsCoreCount image options.cores → options.room ≤ 1048576 → (whole : IsWholeHistory (loop_on_machine asked image options) history)
    → IsFoundLegal (lines ++ codes "\n" ++ printed_trace options.cores history) (lines ++ codes "\n") image options.cores history whole.state.homefree
