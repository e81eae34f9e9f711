-- What the command comes to, from what running its image came to.
use Rattle.std.proofs.Common.{◌≡◌, ℕ, Bool, true, false, List, Option, Some, None, Result, Ok, Err, MatchResult, inl, inr, refl}
use Rattle.std.specs.Io.KnownBytes.{Keeps}
use Rattle.rv32_image.specs.declared.fault.ImageFault.{ImageFault}
use Rattle.rv32_image.specs.Image.{LoadedImage}
use Rattle.rv32_image.specs.ImageText.{image_text}
use Rattle.rv32_image.specs.Reading.{ForText}
use Rattle.rv32_image.proofs.Inputs.{by_image}
use Rattle.spec_history.specs.declared.entry.Entry.{Entry}
use Rattle.trace_commands.specs.declared.outcome.Outcome.{Outcome}
use Rattle.trace_commands.specs.declared.outcome.Outcome.TheVariants.{Reported, Usage, BadImage, Stopped}
use Rattle.trace_commands.specs.declared.outcome.CommandStop.TheVariants.{Write, NoMemory, HistoryFull, NoThread, Spent, Shut}
use Rattle.trace_commands.specs.Outcome.{Conclusion}
use Rattle.trace_commands.specs.Stores.{nothing_asked}
use Rattle.homefree.specs.declared.book.Loop.{Loop}
use Rattle.run_command.specs.declared.options.RunOptions.{RunOptions}
use Rattle.run_command.specs.Run.{IsBelow, IsFullHistory, IsImageOutcome, IsMade, IsOutcomeOf, IsPrinted, IsRun, RunAnswers, loop_asked}
use Rattle.run_command.specs.Threads.{IsMachineOutcome, IsThreadsOutcome}

-- ---- of a text that has an image

module _ (IsRight : LoadedImage → Outcome → Type 0) (text : List ℕ) (image : LoadedImage) (old new : Option (List ℕ)) (said : image_text text ≡ Ok image)
    (no_image_fault : (fault : ImageFault) → IsRight image (BadImage fault) → ⊥) (keeps : IsRight image (Stopped NoMemory) → Keeps old new) where
  pub of_image : (outcome : Outcome) → IsRight image outcome → IsOutcomeOf IsRight text old new outcome
  of_image (BadImage fault) is = absurd (no_image_fault fault is)
  of_image (Stopped NoMemory) is = keeps is
  of_image outcome is = by_image text image (λ i. IsRight i outcome) said is

-- what is right of each image for one reason is for another
mapped : (P Q : LoadedImage → Type 0) → ((image : LoadedImage) → P image → Q image) → (said : Result LoadedImage ImageFault)
    → MatchResult said P (λ fault. ⊥) → MatchResult said Q (λ fault. ⊥)
mapped P Q implies (Ok image) is = implies image is
mapped P Q implies (Err fault) is = is

pub outcome_for : (P Q : LoadedImage → Outcome → Type 0) → ((image : LoadedImage) (outcome : Outcome) → P image outcome → Q image outcome)
    → (text : List ℕ) (old new : Option (List ℕ)) (outcome : Outcome) → IsOutcomeOf P text old new outcome → IsOutcomeOf Q text old new outcome
outcome_for P Q implies text old new (BadImage fault) is = is
outcome_for P Q implies text old new (Stopped NoMemory) is = is
outcome_for P Q implies text old new outcome is = mapped (λ i. P i outcome) (λ i. Q i outcome) (λ i. implies i outcome) (image_text text) is

-- ---- over a store that is one of caches

module _ (OfCaches : Type 0) (caches : OfCaches) where
  made_so : (l : Loop) (history : List Entry) → IsMade OfCaches l history → IsMade (Unit {0}) l history
  made_so l history is = record { caused = is.caused; known = is.known; starts = is.starts; passes = λ _. is.passes caches }

  below_so : (trace : Bool) (l : Loop) (text : List ℕ) → IsBelow OfCaches trace l text → IsBelow (Unit {0}) trace l text
  below_so false l text is = is
  below_so true l text is = (is.0, is.1, made_so l is.0 is.2, is.3)

  printed_so : (image : LoadedImage) (l : Loop) (trace : Bool) (text : List ℕ) → IsPrinted OfCaches image l trace text → IsPrinted (Unit {0}) image l trace text
  printed_so image l trace text is = (is.0, below_so trace l is.0 is.1, is.2)

  full_so : (l : Loop) (history : List Entry) → IsFullHistory OfCaches l history → IsFullHistory (Unit {0}) l history
  full_so l history is =
      record { made = made_so l history is.made; within = is.within; state = is.state; replays = is.replays; going = is.going; full = is.full }

  run_so : (image : LoadedImage) (l : Loop) (trace : Bool) (old new : Option (List ℕ)) (outcome : Outcome) → IsRun OfCaches image l trace old new outcome
      → IsRun (Unit {0}) image l trace old new outcome
  run_so image l trace old new (Reported end) is = (is.0, is.1, printed_so image l trace is.1 is.2, is.3)
  run_so image l trace old new (Stopped Write) is = (is.0, printed_so image l trace is.0 is.1, is.2)
  run_so image l trace old new (Stopped HistoryFull) is = ((is.0.0, full_so l is.0.0 is.0.1), is.1)
  run_so image l trace old new (Stopped NoMemory) is = is
  run_so image l trace old new (Stopped NoThread) is = is
  run_so image l trace old new (Stopped Spent) is = is
  run_so image l trace old new (Stopped Shut) is = is
  run_so image l trace old new other is = absurd is

  -- with no machine asked for it is what `run` comes to
  image_so : (options : RunOptions) (old new : Option (List ℕ)) (image : LoadedImage) (outcome : Outcome)
      → IsMachineOutcome OfCaches nothing_asked options old new image outcome → IsImageOutcome options old new image outcome
  image_so options old new image Usage is = (
    elim is.0 [
      | inl few ↦ few
      | inr none ↦ absurd (none.0 refl)
    ],
    is.1,
  )
  image_so options old new image outcome is = (is.0.count, run_so image (loop_asked image options) options.trace old new outcome is.1)

  pub run_answers : (options : RunOptions) (text : List ℕ) (old new errors errors' : Option (List ℕ)) (status : ℕ)
      → Conclusion (IsThreadsOutcome OfCaches nothing_asked options text old new) errors errors' status → RunAnswers options text old new errors errors' status
  run_answers options text old new errors errors' status answers = record {
    outcome = answers.outcome;
    output = outcome_for (IsMachineOutcome OfCaches nothing_asked options old new) (IsImageOutcome options old new) (image_so options old new) text old new answers.outcome answers.output;
    status = answers.status;
    line = answers.line;
  }

-- ---- of an input

-- what follows for each text follows for the one that is read
pub for_text : (known : Option (List ℕ)) (P Q : List ℕ → Type 0) → ((text : List ℕ) → P text → Q text) → ForText known P → ForText known Q
for_text None P Q implies so = (so.0, implies so.0 so.1)
for_text (Some text) P Q implies so = implies text so
