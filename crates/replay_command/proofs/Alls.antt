-- What every schedule of a text comes to, from what it comes to for its image.
use Rattle.std.proofs.Common.{◌≡◌, ℕ, List, Option, Result, Ok, Err, MatchResult, inr}
use Rattle.rv32_image.specs.declared.fault.ImageFaultKind.{ImageFaultKind}
use Rattle.rv32_image.specs.declared.fault.ImageFaultKind.TheVariants as kind
use Rattle.rv32_image.specs.Image.{LoadedImage}
use Rattle.rv32_image.specs.ImageText.{image_text}
use Rattle.rv32_image.specs.Reading.{IsReadFaultOf}
use Rattle.rv32_image.proofs.Inputs.{by_image}
use Rattle.violations.specs.View.{StoreView, Waits}
use Rattle.violations.specs.Calls.{Call}
use Rattle.trace_commands.specs.declared.outcome.Outcome.{Outcome}
use Rattle.trace_commands.specs.declared.outcome.Outcome.TheVariants.{BadImage, Stopped}
use Rattle.trace_commands.specs.declared.outcome.CommandStop.TheVariants.{NoMemory}
use Rattle.trace_commands.specs.Outcome.{AppendsPrefix, error_line, outcome_of_fault, status_of}
use Rattle.trace_commands.proofs.Audits.{keeps_itself}
use Rattle.replay_command.specs.declared.settings.Settings.{Settings}
use Rattle.replay_command.specs.Settings.{loop_with}
use Rattle.replay_command.specs.AllSchedules.{AllAnswers, IsUnwritten, IsUnwrittenOf, IsWritten, IsWrittenOf}
use Rattle.trace_commands.specs.Program.{Stream}

module _ {S : Type 0} (starts : LoadedImage → ℕ → S → Type 0) (makes : S → Call → S → Type 0) (view : S → StoreView) (waits : S → Waits) (cores : ℕ) (settings : Settings) (turns : ℕ) (text : List ℕ) (image : LoadedImage) (old new : Option (List ℕ)) (said : image_text text ≡ Ok image) where
  unwritten_of : (outcome : Outcome) → IsUnwrittenOf starts makes view waits (loop_with image cores settings) turns old new outcome → IsUnwritten starts makes view waits cores settings turns text old new outcome
  unwritten_of (BadImage fault) is = absurd is
  unwritten_of (Stopped NoMemory) is = is.1
  unwritten_of outcome is = by_image text image (λ i. IsUnwrittenOf starts makes view waits (loop_with i cores settings) turns old new outcome) said is

  pub of_image : {A : Type 0} (result : Result A Outcome)
      → MatchResult result (λ _. IsWrittenOf starts makes view waits (loop_with image cores settings) turns old new) (IsUnwrittenOf starts makes view waits (loop_with image cores settings) turns old new)
      → MatchResult result (λ _. IsWritten starts makes view waits cores settings turns text old new) (IsUnwritten starts makes view waits cores settings turns text old new)
  of_image (Ok done) is = by_image text image (λ i. IsWrittenOf starts makes view waits (loop_with i cores settings) turns old new) said is
  of_image (Err outcome) is = unwritten_of outcome is

module _ {S : Type 0} (starts : LoadedImage → ℕ → S → Type 0) (makes : S → Call → S → Type 0) (view : S → StoreView) (waits : S → Waits) (cores : ℕ) (settings : Settings) (turns : ℕ) (output errors : Stream) where
  pub unwritten_answers : (text : List ℕ) (outcome : Outcome) (status : ℕ) → status ≡ status_of outcome → AppendsPrefix errors.old errors.new (error_line outcome)
      → IsUnwritten starts makes view waits cores settings turns text output.old output.new outcome → AllAnswers starts makes view waits cores settings turns text output errors status
  unwritten_answers text outcome status is line so = inr (record { outcome = outcome; output = so; status = is; line = line })

-- the image is refused
pub refused : {S : Type 0} (starts : LoadedImage → ℕ → S → Type 0) (makes : S → Call → S → Type 0) (view : S → StoreView) (waits : S → Waits) (cores : ℕ) (settings : Settings) (turns : ℕ) (text : List ℕ) (output : Option (List ℕ)) (line : ℕ) (kind : ImageFaultKind)
    → IsReadFaultOf kind (record { line = line; kind = kind }) (image_text text)
    → IsUnwritten starts makes view waits cores settings turns text output output (outcome_of_fault kind (record { line = line; kind = kind }))
refused starts makes view waits cores settings turns text output line kind.NoMemory is = keeps_itself output
refused starts makes view waits cores settings turns text output line other is = (is, keeps_itself output)
