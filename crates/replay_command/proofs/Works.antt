-- What the program answers, from what its parts do.
use Rattle.std.proofs.Common.{◌≡◌, ℕ, List, Option, Some, None, refl, sym, subst}
use Rattle.rv32_image.specs.Reading.{ForText}
use Rattle.trace_commands.specs.declared.outcome.Outcome.TheVariants.{Usage}
use Rattle.trace_commands.specs.Outcome.{AppendsPrefix, error_line, status_of}
use Rattle.trace_commands.proofs.Programs.{kept, unread_answers}
use Rattle.trace_commands.specs.Program.{Stream}
use Rattle.replay_command.specs.declared.words.Request.{Request}
use Rattle.replay_command.specs.Asked.{Asked, asked_in}
use Rattle.replay_command.specs.Work.{AskedAnswers, StoreAnswers, WorkAnswers}

-- a request was answered
pub request_answers : (words : List (List ℕ)) (request : Request) (addresses : List ℕ) (room : ℕ) (text : List ℕ) (input output errors : Stream) (status : ℕ)
    → asked_in words ≡ Some (record { request = request; addresses = addresses }) → StoreAnswers request.store addresses room request.turns text input output errors status
    → WorkAnswers words room text input output errors status
request_answers words request addresses room text input output errors status asked so =
    subst (λ (r : Option Asked). AskedAnswers r room text input output errors status) (sym asked) so

-- the words ask for nothing
pub refused_answers : (words : List (List ℕ)) (room : ℕ) (input output : Option (List ℕ)) (errors : Stream) (status : ℕ) → asked_in words ≡ None
    → status ≡ status_of Usage → AppendsPrefix errors.old errors.new (error_line Usage)
    → ForText input (λ text. WorkAnswers words room text (kept input) (kept output) errors status)
refused_answers words room input output errors status none is line =
    unread_answers (λ it. it ≡ Usage) (λ text. WorkAnswers words room text (kept input) (kept output) errors status) input output errors Usage status refl is line
    (λ text so. subst (λ (r : Option Asked). AskedAnswers r room text (kept input) (kept output) errors status) (sym none) so)

-- what holds of each text that is read, with what holds besides
pub for_both : (known : Option (List ℕ)) (P : List ℕ → Type 0) (Q : Type 0) → ForText known P → Q → ForText known (λ text. P text × Q)
for_both None P Q so is = (so.0, (so.1, is))
for_both (Some text) P Q so is = (so, is)
