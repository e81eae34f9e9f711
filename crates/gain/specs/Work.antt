-- What the program answers.
use Rattle.std.specs.Prelude.{ℕ, ◌+◌, List, Option, Some, None}
use Rattle.rv32_image.specs.ImageText.{longest_image_text}
use Rattle.rv32_image.specs.Input.{TakesAtMost}
use Rattle.trace_commands.specs.Outcome.{Conclusion}
use Rattle.trace_commands.specs.Program.{IsRefused, Stream}
use Rattle.gain.specs.declared.gains.Study.{Study}
use Rattle.gain.specs.Asked.{GainAsked, gain_asked_in}
use Rattle.gain.specs.Gains.{GainAnswers}

-- what is asked for, with so much room for a history
abbrev pub study_of : GainAsked → ℕ → Study
study_of asked room = record { cores = asked.cores; room = room; held = asked.held; limits = asked.limits; costs = asked.costs; even = asked.even }

-- where cores and stores are asked for, the gains are answered, and of the input no more than it may be long, and one byte, was taken; where
-- nothing is, `usage`
abbrev pub AskedAnswers : Option GainAsked → ℕ → List ℕ → Stream → Stream → Stream → ℕ → Type 0
AskedAnswers (Some asked) room text input output errors status =
    GainAnswers (study_of asked room) asked.addresses asked.stores text output errors status × TakesAtMost input.old input.new (longest_image_text + 1)
AskedAnswers None room text input output errors status = Conclusion (IsRefused input output) errors.old errors.new status

-- what the program answers for these words and a text, with so much room for a history
abbrev pub WorkAnswers : List (List ℕ) → ℕ → List ℕ → Stream → Stream → Stream → ℕ → Type 0
WorkAnswers words room text input output errors status = AskedAnswers (gain_asked_in words) room text input output errors status
