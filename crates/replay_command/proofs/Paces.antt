-- What a run of a text by a pace comes to, from what it comes to for its image.
use Rattle.std.proofs.Common.{◌≡◌, ℕ, ◌+◌, List, [], Option, Some, None, Result, Ok, MatchResult, false, refl, sym, subst, arith}
use Rattle.rv32_image.specs.declared.fault.ImageFault.{ImageFault}
use Rattle.rv32_image.specs.declared.fault.ImageFaultKind.{ImageFaultKind}
use Rattle.rv32_image.specs.declared.fault.ImageFaultKind.TheVariants as kind
use Rattle.rv32_image.specs.Image.{LoadedImage}
use Rattle.rv32_image.specs.ImageText.{image_text, longest_image_text}
use Rattle.rv32_image.specs.Input.{TakesAtMost}
use Rattle.rv32_image.specs.Reading.{ForText, IsReadFaultOf}
use Rattle.violations.specs.View.{StoreView, Waits}
use Rattle.violations.specs.Calls.{Call}
use Rattle.trace_commands.specs.declared.outcome.Outcome.{Outcome}
use Rattle.trace_commands.specs.declared.outcome.Outcome.TheVariants.{BadImage, Stopped}
use Rattle.trace_commands.specs.declared.outcome.CommandStop.TheVariants as cause
use Rattle.trace_commands.specs.Outcome.{AppendsPrefix, Conclusion, error_line, outcome_of_fault, status_of}
use Rattle.trace_commands.specs.Program.{Stream}
use Rattle.trace_commands.proofs.Audits.{keeps_itself}
use Rattle.replay_command.specs.declared.settings.Settings.{Settings}
use Rattle.replay_command.specs.Settings.{loop_with}
use Rattle.homefree.specs.declared.book.Loop.{Loop}
use Rattle.homefree.specs.declared.fault.TurnFault.TheVariants as fault
use Rattle.trace_commands.specs.declared.outcome.CommandStop.{CommandStop}
use Rattle.turn_costs.specs.declared.costs.Costs.{Costs}
use Rattle.turn_costs.specs.Prices.{Prices}
use Rattle.even_speed.specs.Even.{pacing}
use Rattle.even_speed.specs.Held.{Holding, loads_at}
use Rattle.epoch_paths.specs.declared.pieces.Pieces.{Pieces}
use Rattle.all_schedules.specs.Evenly.{IsEvenFault, MakesEvenly}
use Rattle.all_schedules.specs.Holding.{WaitsInOrder, none_waits}
use Rattle.replay_command.specs.Paced.{IsEvenStop, IsEvenText, IsPacedOf, IsPacedOutcome, IsPacedStop, IsPacedText}
use Rattle.replay_command.specs.declared.paced.Pace.{Pace}
use Rattle.replay_command.specs.declared.paced.Pace.TheVariants.{Even, Held}

module _ {S : Type 0} (starts : LoadedImage → ℕ → S → Type 0) (makes : S → Call → S → Type 0) (view : S → StoreView) (waits : S → Waits) (prices : S → Prices) (keeps : S → Type 0) (addresses : List ℕ) (pace : Pace) (cores : ℕ) (settings : Settings) (text : List ℕ) where
  pub paced_of_image : (image : LoadedImage) (old new : Option (List ℕ)) → image_text text ≡ Ok image → (outcome : Outcome)
      → IsPacedOf starts makes view waits prices keeps addresses pace (loop_with image cores settings) old new outcome → IsPacedOutcome starts makes view waits prices keeps addresses pace cores settings text old new outcome
  paced_of_image image old new said (BadImage fault) is = absurd is
  paced_of_image image old new said (Stopped cause.NoMemory) is = is.1
  paced_of_image image old new said outcome is =
      subst (λ (r : Result LoadedImage ImageFault). MatchResult r (λ i. IsPacedOf starts makes view waits prices keeps addresses pace (loop_with i cores settings) old new outcome) (λ fault. ⊥)) (sym said) is

  -- the image is refused
  pub paced_refused : (output : Option (List ℕ)) (line : ℕ) (kind : ImageFaultKind) → IsReadFaultOf kind (record { line = line; kind = kind }) (image_text text)
      → IsPacedOutcome starts makes view waits prices keeps addresses pace cores settings text output output (outcome_of_fault kind (record { line = line; kind = kind }))
  paced_refused output line kind.NoMemory is = keeps_itself output
  paced_refused output line other is = (is, keeps_itself output)

-- ---- memory ran out before the input was read

pub none_taken : (known : Option (List ℕ)) → TakesAtMost known known (longest_image_text + 1)
none_taken None = ([], tt, omega arith)
none_taken (Some text) = ([], refl, omega arith)

module _ {S : Type 0} (starts : LoadedImage → ℕ → S → Type 0) (makes : S → Call → S → Type 0) (view : S → StoreView) (waits : S → Waits) (prices : S → Prices) (keeps : S → Type 0) (addresses : List ℕ) (pace : Pace) (cores : ℕ) (settings : Settings)
  where
    stopped : (text : List ℕ) (output : Option (List ℕ)) (errors : Stream) (status : ℕ) → status ≡ status_of (Stopped cause.NoMemory) → AppendsPrefix errors.old errors.new (error_line (Stopped cause.NoMemory))
        → Conclusion (IsPacedOutcome starts makes view waits prices keeps addresses pace cores settings text output output) errors.old errors.new status
    stopped text output errors status is line = record { outcome = Stopped cause.NoMemory; output = keeps_itself output; status = is; line = line }

    pub no_memory : (input output : Option (List ℕ)) (errors : Stream) (status : ℕ) → status ≡ status_of (Stopped cause.NoMemory)
        → AppendsPrefix errors.old errors.new (error_line (Stopped cause.NoMemory))
        → ForText input (λ text. Conclusion (IsPacedOutcome starts makes view waits prices keeps addresses pace cores settings text output output) errors.old errors.new status)
    no_memory None output errors status is line = ([], stopped [] output errors status is line)
    no_memory (Some text) output errors status is line = stopped text output errors status is line

-- ---- at even speed

module _ {S : Type 0} (starts : LoadedImage → ℕ → S → Type 0) (makes : S → Call → S → Type 0) (view : S → StoreView) (waits : S → Waits) (prices : S → Prices) (keeps : S → Type 0) (addresses : List ℕ) (l : Loop) where
  -- where the loads at addresses wait
  pub even_text : (costs : Option Costs) (h : Holding) (outcome : Outcome) (text : List ℕ) → h ≡ loads_at addresses
      → IsEvenText starts makes view waits keeps (pacing prices h (none_waits addresses) costs) l outcome text → IsPacedText starts makes view waits prices keeps addresses (Even costs) l outcome text
  even_text costs h outcome text is shown = record {
    schedule = shown.schedule;
    history = shown.history;
    makes = (shown.ran, subst (λ x. MakesEvenly starts makes view waits keeps (pacing prices x (none_waits addresses) costs) l shown.schedule (Ok (Some shown.ran)) shown.history) is shown.makes);
    below = shown.below;
    shown = shown.shown;
    text_is = shown.text_is;
  }

  pub even_stop : (costs : Option Costs) (h : Holding) (cause : CommandStop) → h ≡ loads_at addresses → IsEvenStop starts makes view waits keeps (pacing prices h (none_waits addresses) costs) l cause
      → IsPacedStop starts makes view waits prices keeps addresses (Even costs) l cause
  even_stop costs h cause.HistoryFull is stop = subst (λ x. IsEvenFault starts makes view waits keeps (pacing prices x (none_waits addresses) costs) l fault.HistoryFull) is stop
  even_stop costs h cause.NoMemory is stop = tt
  even_stop costs h cause.Write is stop = stop
  even_stop costs h cause.NoThread is stop = stop
  even_stop costs h cause.Spent is stop = stop
  even_stop costs h cause.Shut is stop = stop

  -- where loads wait for what earlier epochs store
  pub held_text : (pieces : Pieces) (costs : Option Costs) (h : Holding) (outcome : Outcome) (text : List ℕ) → WaitsInOrder l.image pieces h
      → IsEvenText starts makes view waits keeps (pacing prices h false costs) l outcome text → IsPacedText starts makes view waits prices keeps addresses (Held pieces costs) l outcome text
  held_text pieces costs h outcome text held shown = record {
    schedule = shown.schedule;
    history = shown.history;
    makes = (h, held, shown.ran, shown.makes);
    below = shown.below;
    shown = shown.shown;
    text_is = shown.text_is;
  }

  pub held_stop : (pieces : Pieces) (costs : Option Costs) (h : Holding) (cause : CommandStop) → WaitsInOrder l.image pieces h
      → IsEvenStop starts makes view waits keeps (pacing prices h false costs) l cause → IsPacedStop starts makes view waits prices keeps addresses (Held pieces costs) l cause
  held_stop pieces costs h cause.HistoryFull held stop = (h, held, stop)
  held_stop pieces costs h cause.NoMemory held stop = tt
  held_stop pieces costs h cause.Write held stop = stop
  held_stop pieces costs h cause.NoThread held stop = stop
  held_stop pieces costs h cause.Spent held stop = stop
  held_stop pieces costs h cause.Shut held stop = stop
