-- What the program answers, from what its parts do.
use Rattle.std.proofs.Common.{◌≡◌, ℕ, ◌+◌, List, Option, Some, None, Result, Ok, Err, MatchResult, refl, subst, inr}
use Rattle.rv32_image.specs.declared.fault.ImageFaultKind.{ImageFaultKind}
use Rattle.rv32_image.specs.declared.fault.ImageFaultKind.TheVariants as kind
use Rattle.rv32_image.specs.Image.{LoadedImage}
use Rattle.rv32_image.specs.ImageText.{image_text, longest_image_text}
use Rattle.rv32_image.specs.Input.{TakesAtMost}
use Rattle.rv32_image.specs.Reading.{ForText, IsReadFaultOf}
use Rattle.rv32_image.proofs.Inputs.{by_image}
use Rattle.trace_commands.specs.declared.outcome.Outcome.{Outcome}
use Rattle.trace_commands.specs.declared.outcome.Outcome.TheVariants.{BadImage, Stopped, Usage}
use Rattle.trace_commands.specs.declared.outcome.CommandStop.TheVariants.{NoMemory}
use Rattle.trace_commands.specs.Outcome.{AppendsPrefix, error_line, outcome_of_fault, status_of}
use Rattle.trace_commands.proofs.Audits.{for_each, keeps_itself}
use Rattle.trace_commands.specs.Program.{Stream}
use Rattle.trace_commands.proofs.Programs.{kept, unread_answers}
use Rattle.depends.specs.Answers.{DependsAnswers, IsUnwritten, IsUnwrittenOf, IsWritten, IsWrittenOf}
use Rattle.trace_commands.specs.Stores.{StoresAsked, stores_asked_in}
use Rattle.depends.specs.Work.{AskedAnswers, WorkAnswers}

-- ---- of an image

module _ (cores : ℕ) (stores : List (List ℕ)) (room : ℕ) (text : List ℕ) (image : LoadedImage) (old new : Option (List ℕ)) (said : image_text text ≡ Ok image) where
  unwritten_of : (outcome : Outcome) → IsUnwrittenOf image cores stores room old new outcome → IsUnwritten cores stores room text old new outcome
  unwritten_of (BadImage fault) is = absurd is
  unwritten_of (Stopped NoMemory) is = is
  unwritten_of outcome is = by_image text image (λ i. IsUnwrittenOf i cores stores room old new outcome) said is

  pub of_image : {A : Type 0} (result : Result A Outcome)
      → MatchResult result (λ _. IsWrittenOf image cores stores room old new) (IsUnwrittenOf image cores stores room old new)
      → MatchResult result (λ _. IsWritten cores stores room text old new) (IsUnwritten cores stores room text old new)
  of_image (Ok done) is = by_image text image (λ i. IsWrittenOf i cores stores room old new) said is
  of_image (Err outcome) is = unwritten_of outcome is

-- the image is refused
pub refused : (cores : ℕ) (stores : List (List ℕ)) (room : ℕ) (text : List ℕ) (output : Option (List ℕ)) (line : ℕ) (kind : ImageFaultKind)
    → IsReadFaultOf kind (record { line = line; kind = kind }) (image_text text)
    → IsUnwritten cores stores room text output output (outcome_of_fault kind (record { line = line; kind = kind }))
refused cores stores room text output line kind.NoMemory is = keeps_itself output
refused cores stores room text output line other is = (is, keeps_itself output)

pub unwritten_answers : (cores : ℕ) (stores : List (List ℕ)) (room : ℕ) (output errors : Stream) (text : List ℕ) (outcome : Outcome) (status : ℕ) → status ≡ status_of outcome
    → AppendsPrefix errors.old errors.new (error_line outcome) → IsUnwritten cores stores room text output.old output.new outcome
    → DependsAnswers cores stores room text output errors status
unwritten_answers cores stores room output errors text outcome status is line so = inr (record { outcome = outcome; output = so; status = is; line = line })

-- ---- of the words

-- they ask for cores and stores
pub depends_answers : (words : List (List ℕ)) (wanted : StoresAsked) (room : ℕ) (input output errors : Stream) (status : ℕ) → Some wanted ≡ stores_asked_in words
    → TakesAtMost input.old input.new (longest_image_text + 1)
    → ForText input.old (λ text. DependsAnswers wanted.cores wanted.stores room text output errors status) → ForText input.old (λ text. WorkAnswers words room text input output errors status)
depends_answers words wanted room input output errors status asked taken =
    for_each (λ text. DependsAnswers wanted.cores wanted.stores room text output errors status) (λ text. WorkAnswers words room text input output errors status) input.old
    (λ text answers. subst (λ (o : Option StoresAsked). AskedAnswers o room text input output errors status) asked (answers, taken))

-- they ask for nothing
pub refused_answers : (words : List (List ℕ)) (room : ℕ) (input output : Option (List ℕ)) (errors : Stream) (status : ℕ) → None ≡ stores_asked_in words
    → status ≡ status_of Usage → AppendsPrefix errors.old errors.new (error_line Usage)
    → ForText input (λ text. WorkAnswers words room text (kept input) (kept output) errors status)
refused_answers words room input output errors status none is line =
    unread_answers (λ it. it ≡ Usage) (λ text. WorkAnswers words room text (kept input) (kept output) errors status) input output errors Usage status refl is line
    (λ text so. subst (λ (o : Option StoresAsked). AskedAnswers o room text (kept input) (kept output) errors status) none so)
