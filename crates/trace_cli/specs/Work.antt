-- What the program answers.
use Rattle.std.specs.Prelude.{◌⊎◌, ℕ, ◌+◌, List}
use Rattle.rv32_image.specs.ImageText.{longest_image_text}
use Rattle.rv32_image.specs.Input.{TakesAtMost}
use Rattle.trace_text.specs.TraceText.{longest_trace_text}
use Rattle.trace_commands.specs.declared.outcome.Outcome.{Outcome}
use Rattle.trace_commands.specs.Audit.{IsAuditOutcome}
use Rattle.trace_commands.specs.Outcome.{Conclusion, IsNoWords, IsSeqOutcome}
use Rattle.trace_commands.specs.Program.{IsUnread, Stream}
use Rattle.run_command.specs.Run.{IsRunOutcome}
use Rattle.trace_cli.specs.declared.words.Request.{Request}
use Rattle.trace_cli.specs.declared.words.Request.TheVariants.{Seq, Run, Audit}
use Rattle.trace_cli.specs.Request.{IsRequest}

-- a command was run: what it came to is right for the text, and of the input no more than it may be long, and one byte, was taken
abbrev pub IsDone : Request → ℕ → List ℕ → Stream → Stream → Outcome → Type 0
IsDone Seq room text input output outcome =
    IsSeqOutcome text output.old output.new outcome × TakesAtMost input.old input.new (longest_image_text + 1)
IsDone (Run cores trace) room text input output outcome =
    IsRunOutcome (record { cores = cores; room = room; trace = trace }) text output.old output.new outcome
    × TakesAtMost input.old input.new (longest_image_text + 1)
IsDone Audit room text input output outcome =
    IsAuditOutcome text output.old output.new outcome × TakesAtMost input.old input.new (longest_trace_text + 1)

-- the command that was run, a run on 1 to 16 cores
abbrev pub IsCommand : ℕ → List ℕ → Stream → Stream → Outcome → Type 0
IsCommand room text input output outcome = (request : Request) × IsRequest request × IsDone request room text input output outcome

-- no command was run, as the words are none or memory ran out: nothing was read, and nothing written but the error line
abbrev pub IsNoCommand : Stream → Stream → Outcome → Type 0
IsNoCommand input output outcome = IsUnread IsNoWords input output outcome

-- what the program answers for a text, with so much room for a history
abbrev pub WorkAnswers : ℕ → List ℕ → Stream → Stream → Stream → ℕ → Type 0
WorkAnswers room text input output errors status =
    Conclusion (λ outcome. IsCommand room text input output outcome ⊎ IsNoCommand input output outcome) errors.old errors.new status
