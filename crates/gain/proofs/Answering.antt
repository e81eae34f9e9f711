-- What the program answers, from what its parts do.
use Rattle.std.proofs.Common.{◌≡◌, ℕ, ◌+◌, List, [], Option, Some, None, Result, Ok, Err, MatchResult, refl, sym, subst, inr}
use Rattle.rv32_image.specs.declared.fault.ImageFaultKind.{ImageFaultKind}
use Rattle.rv32_image.specs.declared.fault.ImageFaultKind.TheVariants as kind
use Rattle.rv32_image.specs.Image.{LoadedImage}
use Rattle.rv32_image.specs.ImageText.{image_text, longest_image_text}
use Rattle.rv32_image.specs.Input.{TakesAtMost}
use Rattle.rv32_image.specs.Reading.{ForText, IsReadFaultOf}
use Rattle.rv32_image.proofs.Inputs.{by_image}
use Rattle.trace_commands.specs.declared.outcome.Outcome.{Outcome}
use Rattle.trace_commands.specs.declared.outcome.Outcome.TheVariants.{BadImage, Stopped, Usage}
use Rattle.trace_commands.specs.declared.outcome.CommandStop.TheVariants.{NoMemory}
use Rattle.trace_commands.specs.Outcome.{AppendsPrefix, error_line, outcome_of_fault, status_of}
use Rattle.trace_commands.proofs.Audits.{for_each, keeps_itself}
use Rattle.trace_commands.specs.Program.{Stream}
use Rattle.trace_commands.proofs.Programs.{kept, unread_answers}
use Rattle.gain.specs.Gains.{GainAnswers, IsUnwritten, IsUnwrittenOf, IsWritten, IsWrittenOf}
use Rattle.gain.specs.declared.gains.Study.{Study}
use Rattle.gain.specs.Asked.{GainAsked, gain_asked_in}
use Rattle.gain.specs.Work.{AskedAnswers, WorkAnswers}

-- ---- of an image

module _ (study : Study) (addresses : List ℕ) (stores : List (List ℕ)) (text : List ℕ) (image : LoadedImage) (old new : Option (List ℕ)) (said : image_text text ≡ Ok image) where
  unwritten_of : (outcome : Outcome) → IsUnwrittenOf image study addresses stores old new outcome → IsUnwritten study addresses stores text old new outcome
  unwritten_of (BadImage fault) is = absurd is
  unwritten_of (Stopped NoMemory) is = is
  unwritten_of outcome is = by_image text image (λ i. IsUnwrittenOf i study addresses stores old new outcome) said is

  pub of_image : {A : Type 0} (result : Result A Outcome)
      → MatchResult result (λ _. IsWrittenOf image study addresses stores old new) (IsUnwrittenOf image study addresses stores old new)
      → MatchResult result (λ _. IsWritten study addresses stores text old new) (IsUnwritten study addresses stores text old new)
  of_image (Ok done) is = by_image text image (λ i. IsWrittenOf i study addresses stores old new) said is
  of_image (Err outcome) is = unwritten_of outcome is

-- the image is refused
pub refused : (study : Study) (addresses : List ℕ) (stores : List (List ℕ)) (text : List ℕ) (output : Option (List ℕ)) (line : ℕ) (kind : ImageFaultKind)
    → IsReadFaultOf kind (record { line = line; kind = kind }) (image_text text)
    → IsUnwritten study addresses stores text output output (outcome_of_fault kind (record { line = line; kind = kind }))
refused study addresses stores text output line kind.NoMemory is = keeps_itself output
refused study addresses stores text output line other is = (is, keeps_itself output)

pub unwritten_answers : (study : Study) (addresses : List ℕ) (stores : List (List ℕ)) (output errors : Stream) (text : List ℕ) (outcome : Outcome) (status : ℕ) → status ≡ status_of outcome
    → AppendsPrefix errors.old errors.new (error_line outcome) → IsUnwritten study addresses stores text output.old output.new outcome
    → GainAnswers study addresses stores text output errors status
unwritten_answers study addresses stores output errors text outcome status is line so = inr (record { outcome = outcome; output = so; status = is; line = line })

-- memory ran out before the input was read
pub no_memory : (study : Study) (addresses : List ℕ) (stores : List (List ℕ)) (input output : Option (List ℕ)) (errors : Stream) (status : ℕ) → status ≡ status_of (Stopped NoMemory)
    → AppendsPrefix errors.old errors.new (error_line (Stopped NoMemory)) → ForText input (λ text. GainAnswers study addresses stores text (kept output) errors status)
no_memory study addresses stores None output errors status is line =
    ([], unwritten_answers study addresses stores (kept output) errors [] (Stopped NoMemory) status is line (keeps_itself output))
no_memory study addresses stores (Some text) output errors status is line =
    unwritten_answers study addresses stores (kept output) errors text (Stopped NoMemory) status is line (keeps_itself output)

-- ---- of the words

-- they ask for cores and stores
pub gain_answers : (words : List (List ℕ)) (study : Study) (addresses : List ℕ) (stores : List (List ℕ)) (room : ℕ) (input output errors : Stream) (status : ℕ)
    → gain_asked_in words ≡ Some (record { cores = study.cores; stores = stores; held = study.held; addresses = addresses; limits = study.limits; costs = study.costs; even = study.even }) → study.room ≡ room
    → TakesAtMost input.old input.new (longest_image_text + 1)
    → ForText input.old (λ text. GainAnswers study addresses stores text output errors status) → ForText input.old (λ text. WorkAnswers words room text input output errors status)
gain_answers words study addresses stores room input output errors status asked with_room taken =
    for_each (λ text. GainAnswers study addresses stores text output errors status) (λ text. WorkAnswers words room text input output errors status) input.old
    (λ text answers. subst (λ r. WorkAnswers words r text input output errors status) with_room
    (subst (λ (o : Option GainAsked). AskedAnswers o study.room text input output errors status) (sym asked) (answers, taken)))

-- they ask for nothing
pub refused_answers : (words : List (List ℕ)) (room : ℕ) (input output : Option (List ℕ)) (errors : Stream) (status : ℕ) → None ≡ gain_asked_in words
    → status ≡ status_of Usage → AppendsPrefix errors.old errors.new (error_line Usage)
    → ForText input (λ text. WorkAnswers words room text (kept input) (kept output) errors status)
refused_answers words room input output errors status none is line =
    unread_answers (λ it. it ≡ Usage) (λ text. WorkAnswers words room text (kept input) (kept output) errors status) input output errors Usage status refl is line
    (λ text so. subst (λ (o : Option GainAsked). AskedAnswers o room text (kept input) (kept output) errors status) none so)
