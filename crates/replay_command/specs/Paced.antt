-- What a run comes to whose turns the program takes by its own pace, at even speed or as a seed draws them, and what was written of it.
-- Source: this project.
use Rattle.std.specs.Prelude.{◌≡◌, ℕ, ◌++◌, false, List, Option, Some, Ok, MatchResult}
use Rattle.std.specs.Io.KnownBytes.{Appends, Keeps}
use Rattle.rv32_image.specs.ImageText.{image_text}
use Rattle.rv32_image.specs.Image.{LoadedImage}
use Rattle.spec_history.specs.declared.entry.Entry.{Entry}
use Rattle.violations.specs.View.{StoreView, Waits}
use Rattle.violations.specs.Calls.{Call}
use Rattle.homefree.specs.declared.book.Loop.{Loop}
use Rattle.homefree.specs.declared.fault.TurnFault.TheVariants as fault
use Rattle.trace_commands.specs.declared.outcome.Outcome.{Outcome}
use Rattle.trace_commands.specs.declared.outcome.Outcome.TheVariants.{Reported, Open, Usage, BadImage, Stopped}
use Rattle.trace_commands.specs.declared.outcome.CommandStop.{CommandStop}
use Rattle.trace_commands.specs.declared.outcome.CommandStop.TheVariants.{Write, NoMemory, HistoryFull}
use Rattle.trace_commands.specs.Outcome.{AppendsPrefix, IsRefusal}
use Rattle.homefree.specs.declared.fault.TurnFault.{TurnFault}
use Rattle.rv32_exec.specs.declared.sequential.End.{End}
use Rattle.even_speed.specs.declared.run.Ran.{Ran}
use Rattle.turn_costs.specs.Prices.{Prices}
use Rattle.even_speed.specs.Even.{Pacing, pacing}
use Rattle.even_speed.specs.Held.{Holding, loads_at}
use Rattle.all_schedules.specs.Holding.{WaitsInOrder, none_waits}
use Rattle.replay_command.specs.declared.settings.Settings.{Settings}
use Rattle.run_command.specs.Runnable.{IsRunnable}
use Rattle.replay_command.specs.Settings.{loop_with}
use Rattle.all_schedules.specs.Evenly.{IsEvenFault, MakesEvenly}
use Rattle.all_schedules.specs.Drawn.{IsDrawnFault, MakesDrawn}
use Rattle.replay_command.specs.SurveyText.{turns_line}
use Rattle.replay_command.specs.declared.paced.Pace.{Pace}
use Rattle.replay_command.specs.declared.paced.Pace.TheVariants.{Even, Held, Seeded}
use Rattle.replay_command.specs.Shown.{IsShown}

-- the schedule is that of the pace, and makes this history; at even speed, where loads at these addresses wait, or for what earlier epochs
-- store in order, up to the end of the loop
abbrev pub MakesAt : {S : Type 0} → (LoadedImage → ℕ → S → Type 0) → (S → Call → S → Type 0) → (S → StoreView) → (S → Waits) → (S → Prices) → (S → Type 0) → List ℕ → Pace → Loop → List ℕ → List Entry → Type 0
MakesAt starts makes view waits prices keeps addresses (Even costs) l schedule history =
    (ran : Ran) × MakesEvenly starts makes view waits keeps (pacing prices (loads_at addresses) (none_waits addresses) costs) l schedule (Ok (Some ran)) history
MakesAt starts makes view waits prices keeps addresses (Held pieces costs) l schedule history =
    (h : Holding) × WaitsInOrder l.image pieces h × (ran : Ran) × MakesEvenly starts makes view waits keeps (pacing prices h false costs) l schedule (Ok (Some ran)) history
MakesAt starts makes view waits prices keeps addresses (Seeded seed) l schedule history = (end : Option End) × MakesDrawn starts makes view waits l seed schedule (Ok end) history

-- the run may end in this fault
abbrev pub IsFaultAt : {S : Type 0} → (LoadedImage → ℕ → S → Type 0) → (S → Call → S → Type 0) → (S → StoreView) → (S → Waits) → (S → Prices) → (S → Type 0) → List ℕ → Pace → Loop → TurnFault → Type 0
IsFaultAt starts makes view waits prices keeps addresses (Even costs) l fault =
    IsEvenFault starts makes view waits keeps (pacing prices (loads_at addresses) (none_waits addresses) costs) l fault
IsFaultAt starts makes view waits prices keeps addresses (Held pieces costs) l fault =
    (h : Holding) × WaitsInOrder l.image pieces h × IsEvenFault starts makes view waits keeps (pacing prices h false costs) l fault
IsFaultAt starts makes view waits prices keeps addresses (Seeded seed) l fault = IsDrawnFault starts makes view waits l seed fault

-- the line of turns of the run, and below it what shows the history that it makes
pub record IsPacedText {S : Type 0} (starts : LoadedImage → ℕ → S → Type 0) (calls : S → Call → S → Type 0) (view : S → StoreView) (waits : S → Waits) (prices : S → Prices) (keeps : S → Type 0) (addresses : List ℕ) (pace : Pace) (l : Loop) (outcome : Outcome) (text : List ℕ) : Type 0 where
  pub schedule : List ℕ
  pub history : List Entry
  pub makes : MakesAt starts calls view waits prices keeps addresses pace l schedule history
  pub below : List ℕ
  pub shown : IsShown l.image l.cores history outcome below
  pub text_is : text ≡ turns_line schedule ++ below

-- the run may stop so
abbrev pub IsPacedStop : {S : Type 0} → (LoadedImage → ℕ → S → Type 0) → (S → Call → S → Type 0) → (S → StoreView) → (S → Waits) → (S → Prices) → (S → Type 0) → List ℕ → Pace → Loop → CommandStop → Type 0
IsPacedStop starts makes view waits prices keeps addresses pace l HistoryFull = IsFaultAt starts makes view waits prices keeps addresses pace l fault.HistoryFull
IsPacedStop starts makes view waits prices keeps addresses pace l NoMemory = Unit {0}
IsPacedStop starts makes view waits prices keeps addresses pace l other = ⊥

-- so at even speed, so paced
pub record IsEvenText {S : Type 0} (starts : LoadedImage → ℕ → S → Type 0) (calls : S → Call → S → Type 0) (view : S → StoreView) (waits : S → Waits) (keeps : S → Type 0) (paced : Pacing S) (l : Loop) (outcome : Outcome) (text : List ℕ) : Type 0 where
  pub schedule : List ℕ
  pub history : List Entry
  pub ran : Ran
  pub makes : MakesEvenly starts calls view waits keeps paced l schedule (Ok (Some ran)) history
  pub below : List ℕ
  pub shown : IsShown l.image l.cores history outcome below
  pub text_is : text ≡ turns_line schedule ++ below

abbrev pub IsEvenStop : {S : Type 0} → (LoadedImage → ℕ → S → Type 0) → (S → Call → S → Type 0) → (S → StoreView) → (S → Waits) → (S → Type 0) → Pacing S → Loop → CommandStop → Type 0
IsEvenStop starts makes view waits keeps paced l HistoryFull = IsEvenFault starts makes view waits keeps paced l fault.HistoryFull
IsEvenStop starts makes view waits keeps paced l NoMemory = Unit {0}
IsEvenStop starts makes view waits keeps paced l other = ⊥

-- it was written
abbrev pub IsPacedWritten : {S : Type 0} → (LoadedImage → ℕ → S → Type 0) → (S → Call → S → Type 0) → (S → StoreView) → (S → Waits) → (S → Prices) → (S → Type 0) → List ℕ → Pace → Loop → Option (List ℕ) → Option (List ℕ) → Outcome → Type 0
IsPacedWritten starts makes view waits prices keeps addresses pace l old new outcome = IsRunnable l.image l.cores × (text : List ℕ) × IsPacedText starts makes view waits prices keeps addresses pace l outcome text × Appends old new text

-- what the run of an image came to is right, and this was written
abbrev pub IsPacedOf : {S : Type 0} → (LoadedImage → ℕ → S → Type 0) → (S → Call → S → Type 0) → (S → StoreView) → (S → Waits) → (S → Prices) → (S → Type 0) → List ℕ → Pace → Loop → Option (List ℕ) → Option (List ℕ) → Outcome → Type 0
IsPacedOf starts makes view waits prices keeps addresses pace l old new (Reported end) = IsPacedWritten starts makes view waits prices keeps addresses pace l old new (Reported end)
IsPacedOf starts makes view waits prices keeps addresses pace l old new (Open homefree) = IsPacedWritten starts makes view waits prices keeps addresses pace l old new (Open homefree)
IsPacedOf starts makes view waits prices keeps addresses pace l old new (Stopped Write) =
    IsRunnable l.image l.cores × (outcome : Outcome) × (text : List ℕ) × IsPacedText starts makes view waits prices keeps addresses pace l outcome text × AppendsPrefix old new text
IsPacedOf starts makes view waits prices keeps addresses pace l old new (Stopped cause) = IsPacedStop starts makes view waits prices keeps addresses pace l cause × Keeps old new
IsPacedOf starts makes view waits prices keeps addresses pace l old new Usage = (IsRunnable l.image l.cores → ⊥) × Keeps old new
IsPacedOf starts makes view waits prices keeps addresses pace l old new outcome = ⊥

-- and so of a text
abbrev pub IsPacedOutcome : {S : Type 0} → (LoadedImage → ℕ → S → Type 0) → (S → Call → S → Type 0) → (S → StoreView) → (S → Waits) → (S → Prices) → (S → Type 0) → List ℕ → Pace → ℕ → Settings → List ℕ → Option (List ℕ) → Option (List ℕ) → Outcome → Type 0
IsPacedOutcome starts makes view waits prices keeps addresses pace cores settings text old new (BadImage fault) = IsRefusal fault.kind fault (image_text text) × Keeps old new
IsPacedOutcome starts makes view waits prices keeps addresses pace cores settings text old new (Stopped NoMemory) = Keeps old new
IsPacedOutcome starts makes view waits prices keeps addresses pace cores settings text old new outcome =
    MatchResult (image_text text) (λ image. IsPacedOf starts makes view waits prices keeps addresses pace (loop_with image cores settings) old new outcome) (λ fault. ⊥)
