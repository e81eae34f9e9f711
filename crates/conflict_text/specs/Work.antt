-- What the program answers.
use Rattle.std.specs.Prelude.{ℕ, ◌+◌, List, Option, Some, None}
use Rattle.rv32_image.specs.Input.{TakesAtMost}
use Rattle.trace_text.specs.TraceText.{longest_trace_text}
use Rattle.trace_commands.specs.declared.outcome.Outcome.{Outcome}
use Rattle.trace_commands.specs.Outcome.{Conclusion}
use Rattle.trace_commands.specs.Program.{IsRefused, Stream}
use Rattle.conflict_text.specs.declared.command.WhyAsked.{WhyAsked}
use Rattle.conflict_text.specs.Why.{IsWhyOutcome}
use Rattle.conflict_text.specs.Asked.{asked_in}

-- where the words ask for it the trace was explained, and of the input no more than it may be long, and one byte, was taken; where they
-- ask for nothing, `usage`
abbrev pub IsAskedOutcome : Option WhyAsked → List ℕ → Stream → Stream → Outcome → Type 0
IsAskedOutcome (Some asked) text input output outcome = IsWhyOutcome asked text output.old output.new outcome × TakesAtMost input.old input.new (longest_trace_text + 1)
IsAskedOutcome None text input output outcome = IsRefused input output outcome

-- what the program answers for these words and a text
abbrev pub WorkAnswers : List (List ℕ) → List ℕ → Stream → Stream → Stream → ℕ → Type 0
WorkAnswers words text input output errors status =
    Conclusion (λ outcome. IsAskedOutcome (asked_in words) text input output outcome) errors.old errors.new status
