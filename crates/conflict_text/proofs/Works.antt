-- What the program answers, from what `why` does.
use Rattle.std.proofs.Common.{◌≡◌, ℕ, ◌+◌, List, Option, Some, None, refl, sym, subst}
use Rattle.rv32_image.specs.Input.{TakesAtMost}
use Rattle.rv32_image.specs.Reading.{ForText}
use Rattle.trace_text.specs.TraceText.{longest_trace_text}
use Rattle.trace_commands.specs.declared.outcome.Outcome.TheVariants.{Usage}
use Rattle.trace_commands.specs.Outcome.{AppendsPrefix, error_line, status_of}
use Rattle.trace_commands.specs.Program.{Stream}
use Rattle.trace_commands.proofs.Audits.{for_each}
use Rattle.trace_commands.proofs.Programs.{kept, unread_answers}
use Rattle.conflict_text.specs.Why.{WhyAnswers}
use Rattle.conflict_text.specs.declared.command.WhyAsked.{WhyAsked}
use Rattle.conflict_text.specs.Asked.{asked_in}
use Rattle.conflict_text.specs.Work.{IsAskedOutcome, WorkAnswers}

module _ (words : List (List ℕ)) where
  answers_for : (asked : WhyAsked) (text : List ℕ) (input output errors : Stream) (status : ℕ) → asked_in words ≡ Some asked → TakesAtMost input.old input.new (longest_trace_text + 1)
      → WhyAnswers asked text output.old output.new errors.old errors.new status → WorkAnswers words text input output errors status
  answers_for asked text input output errors status is taken answers = record {
    outcome = answers.outcome;
    output = subst (λ (o : Option WhyAsked). IsAskedOutcome o text input output answers.outcome) (sym is) (answers.output, taken);
    status = answers.status;
    line = answers.line;
  }

  -- the trace was explained
  pub why_answers : (asked : WhyAsked) (input output errors : Stream) (status : ℕ) → asked_in words ≡ Some asked → TakesAtMost input.old input.new (longest_trace_text + 1)
      → ForText input.old (λ text. WhyAnswers asked text output.old output.new errors.old errors.new status)
      → ForText input.old (λ text. WorkAnswers words text input output errors status)
  why_answers asked input output errors status is taken =
      for_each (λ text. WhyAnswers asked text output.old output.new errors.old errors.new status) (λ text. WorkAnswers words text input output errors status) input.old
      (λ text answers. answers_for asked text input output errors status is taken answers)

  -- the words ask for nothing
  pub refused_answers : (input output : Option (List ℕ)) (errors : Stream) (status : ℕ) → asked_in words ≡ None
      → status ≡ status_of Usage → AppendsPrefix errors.old errors.new (error_line Usage)
      → ForText input (λ text. WorkAnswers words text (kept input) (kept output) errors status)
  refused_answers input output errors status other is line =
      unread_answers (λ it. it ≡ Usage) (λ text. WorkAnswers words text (kept input) (kept output) errors status) input output errors Usage status refl is line
      (λ text so. record {
        outcome = so.outcome;
        output = subst (λ (o : Option WhyAsked). IsAskedOutcome o text (kept input) (kept output) so.outcome) (sym other) so.output;
        status = so.status;
        line = so.line;
      })
