-- What the replay of a text comes to, from what its parts answer.
use Rattle.std.proofs.Common.{◌≡◌, ℕ, ◌<◌, List, length, Option, Some, None, Result, Ok, IfSome, MatchResult, inl, refl, sym, subst}
use Rattle.rv32_image.specs.declared.input.InputFault.{InputFault}
use Rattle.rv32_image.specs.declared.input.InputFault.TheVariants as input
use Rattle.rv32_image.specs.Image.{LoadedImage}
use Rattle.rv32_image.specs.ImageText.{image_text}
use Rattle.rv32_image.specs.Reading.{ForText}
use Rattle.rv32_image.proofs.Inputs.{long_text, by_image}
use Rattle.spec_history.specs.declared.entry.Entry.{Entry}
use Rattle.violations.specs.View.{StoreView, Waits}
use Rattle.violations.specs.Calls.{Call}
use Rattle.homefree.specs.declared.book.Loop.{Loop}
use Rattle.trace_text.specs.declared.fault.TraceFault.{TraceFault}
use Rattle.trace_text.specs.Reading.{input_fault}
use Rattle.trace_text.specs.TraceText.{longest_trace_text}
use Rattle.trace_commands.specs.Outcome.{outcome_of_turns_fault}
use Rattle.trace_commands.proofs.Audits.{keeps_itself}
use Rattle.replay_command.specs.declared.settings.Settings.{Settings}
use Rattle.replay_command.specs.Settings.{RunsWith, loop_with}
use Rattle.replay_command.specs.Replay.{IsReplayOutcome, OfText}
use Rattle.replay_command.specs.Turns.{image_part, schedule_text}

-- what holds of the image that the text says, and of the schedule
pub by_text : (cores : ℕ) (settings : Settings) (text : List ℕ) (image : LoadedImage) (schedule : List ℕ) (P : Loop → List ℕ → Type 0) → image_text (image_part text) ≡ Ok image
    → RunsWith image cores settings → schedule_text cores text ≡ Ok schedule → P (loop_with image cores settings) schedule → OfText cores settings text P
by_text cores settings text image schedule P said allowed turns is =
    by_image (image_part text) image (λ l. RunsWith l cores settings × MatchResult (schedule_text cores text) (P (loop_with l cores settings)) (λ fault. ⊥)) said
    (allowed, subst (λ (r : Result (List ℕ) TraceFault). MatchResult r (P (loop_with image cores settings)) (λ fault. ⊥)) (sym turns) is)

-- ---- an input that could not be read whole

module _ {S : Type 0} (starts : LoadedImage → ℕ → S → Type 0) (makes : S → Call → S → Type 0) (view : S → StoreView) (waits : S → Waits) (heads : Loop → List ℕ → List Entry → List ℕ → Type 0) (cores : Option ℕ) (settings : Settings) where
  refused : (fault : InputFault) (text : List ℕ) (output : Option (List ℕ)) → (fault ≡ input.TooLong → longest_trace_text < length text)
      → IsReplayOutcome starts makes view waits heads cores settings text output output (outcome_of_turns_fault (input_fault fault).kind (input_fault fault))
  refused input.TooLong text output long = (inl (refl, long refl), keeps_itself output)
  refused input.Read text output long = (inl refl, keeps_itself output)
  refused input.NoMemory text output long = inl (keeps_itself output)

  -- an input that could not be read whole
  pub refused_input : (known : Option (List ℕ)) (fault : InputFault) (output : Option (List ℕ))
      → (fault ≡ input.TooLong → IfSome known (λ whole. longest_trace_text < length whole))
      → ForText known (λ text. IsReplayOutcome starts makes view waits heads cores settings text output output (outcome_of_turns_fault (input_fault fault).kind (input_fault fault)))
  refused_input None fault output long = let text = long_text longest_trace_text in (text.0, refused fault text.0 output (λ _. text.1))
  refused_input (Some text) fault output long = refused fault text output long
