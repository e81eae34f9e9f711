-- What the program answers, from what its commands do.
use Rattle.std.proofs.Common.{◌≡◌, ℕ, List, Option, Some, None, inl, inr}
use Rattle.rv32_image.specs.Reading.{ForText}
use Rattle.trace_commands.specs.declared.outcome.Outcome.{Outcome}
use Rattle.trace_commands.specs.Outcome.{Conclusion, AppendsPrefix, IsNoWords, error_line, status_of}
use Rattle.trace_commands.specs.Program.{Stream}
use Rattle.trace_commands.proofs.Programs.{kept, unread_answers}
use Rattle.trace_cli.specs.declared.words.Request.{Request}
use Rattle.trace_cli.specs.Request.{IsRequest}
use Rattle.trace_cli.specs.Work.{IsDone, WorkAnswers}

-- no command was run
pub no_command_answers : (room : ℕ) (input output : Option (List ℕ)) (errors : Stream) (outcome : Outcome) (status : ℕ)
    → IsNoWords outcome → status ≡ status_of outcome → AppendsPrefix errors.old errors.new (error_line outcome)
    → ForText input (λ text. WorkAnswers room text (kept input) (kept output) errors status)
no_command_answers room input output errors outcome status which is line =
    unread_answers IsNoWords (λ text. WorkAnswers room text (kept input) (kept output) errors status) input output errors outcome status
    which is line (λ text so. record { outcome = so.outcome; output = inr so.output; status = so.status; line = so.line })

-- a command that was run answers for what it did
answers_for : (P : Outcome → Type 0) (room : ℕ) (request : Request) (input output errors : Stream) (text : List ℕ) (status : ℕ) → IsRequest request
    → ((outcome : Outcome) → P outcome → IsDone request room text input output outcome)
    → Conclusion P errors.old errors.new status → WorkAnswers room text input output errors status
answers_for P room request input output errors text status is done answers =
    record { outcome = answers.outcome; output = inl (request, is, done answers.outcome answers.output); status = answers.status; line = answers.line }

-- this command was run
pub command_answers : (P : List ℕ → Outcome → Type 0) (room : ℕ) (request : Request) (old new : Option (List ℕ)) (output errors : Stream) (status : ℕ) → IsRequest request
    → ((text : List ℕ) (outcome : Outcome) → P text outcome → IsDone request room text (record { old = old; new = new }) output outcome)
    → ForText old (λ text. Conclusion (P text) errors.old errors.new status)
    → ForText old (λ text. WorkAnswers room text (record { old = old; new = new }) output errors status)
command_answers P room request None new output errors status is done answers =
    (answers.0, answers_for (P answers.0) room request (record { old = None; new = new }) output errors answers.0 status is (done answers.0) answers.1)
command_answers P room request (Some text) new output errors status is done answers =
    answers_for (P text) room request (record { old = Some text; new = new }) output errors text status is (done text) answers
