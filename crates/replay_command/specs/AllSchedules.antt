-- What every schedule of a loop comes to, and what was written of it.
-- Source: this project.
use Rattle.std.specs.Prelude.{◌≡◌, ◌⊎◌, ℕ, List, Option, MatchResult, Contains}
use Rattle.std.specs.Io.KnownBytes.{Appends, Keeps}
use Rattle.rv32_image.specs.ImageText.{image_text}
use Rattle.rv32_image.specs.Image.{LoadedImage}
use Rattle.violations.specs.View.{StoreView, Waits}
use Rattle.violations.specs.Calls.{Call}
use Rattle.homefree.specs.declared.book.Loop.{Loop}
use Rattle.trace_commands.specs.declared.outcome.Outcome.{Outcome}
use Rattle.trace_commands.specs.declared.outcome.Outcome.TheVariants.{Usage, BadImage, Stopped}
use Rattle.trace_commands.specs.declared.outcome.CommandStop.{CommandStop}
use Rattle.trace_commands.specs.declared.outcome.CommandStop.TheVariants.{Write, NoMemory, HistoryFull}
use Rattle.trace_commands.specs.Outcome.{AppendsPrefix, Conclusion, IsRefusal}
use Rattle.replay_command.specs.declared.survey.Survey.{Survey}
use Rattle.replay_command.specs.declared.settings.Settings.{Settings}
use Rattle.run_command.specs.Runnable.{IsRunnable}
use Rattle.replay_command.specs.Settings.{loop_with}
use Rattle.all_schedules.specs.Made.{IsFull}
use Rattle.all_schedules.specs.Schedules.{AreAllSchedules}
use Rattle.replay_command.specs.Survey.{Surveys}
use Rattle.replay_command.specs.SurveyText.{survey_text}
use Rattle.trace_commands.specs.Program.{Stream}

-- the text is that of a survey of every schedule of so many turns
pub record IsAll {S : Type 0} (starts : LoadedImage → ℕ → S → Type 0) (makes : S → Call → S → Type 0) (view : S → StoreView) (waits : S → Waits) (l : Loop) (turns : ℕ) (text : List ℕ) : Type 0 where
  pub schedules : List (List ℕ)
  pub every : AreAllSchedules l.cores turns schedules
  pub survey : Survey
  pub surveys : Surveys starts makes view waits l schedules survey
  pub text_is : text ≡ survey_text l.image schedules survey

-- a turn of one of them finds too few free entries
pub record IsOneFull {S : Type 0} (starts : LoadedImage → ℕ → S → Type 0) (makes : S → Call → S → Type 0) (view : S → StoreView) (waits : S → Waits) (l : Loop) (turns : ℕ) : Type 0 where
  pub schedules : List (List ℕ)
  pub every : AreAllSchedules l.cores turns schedules
  pub schedule : List ℕ
  pub there : Contains schedules schedule
  pub full : IsFull starts makes view waits l schedule

-- driving them may stop so
abbrev pub IsAllStop : {S : Type 0} → (LoadedImage → ℕ → S → Type 0) → (S → Call → S → Type 0) → (S → StoreView) → (S → Waits) → Loop → ℕ → CommandStop → Type 0
IsAllStop starts makes view waits l turns HistoryFull = IsOneFull starts makes view waits l turns
IsAllStop starts makes view waits l turns NoMemory = Unit {0}
IsAllStop starts makes view waits l turns other = ⊥

-- ---- of an image

-- it was written
abbrev pub IsWrittenOf : {S : Type 0} → (LoadedImage → ℕ → S → Type 0) → (S → Call → S → Type 0) → (S → StoreView) → (S → Waits) → Loop → ℕ → Option (List ℕ) → Option (List ℕ) → Type 0
IsWrittenOf starts makes view waits l turns old new = IsRunnable l.image l.cores × (text : List ℕ) × IsAll starts makes view waits l turns text × Appends old new text

-- it wasn't: the machine or the number of cores is refused, the history of a schedule is full, memory ran out or a write failed
abbrev pub IsUnwrittenOf : {S : Type 0} → (LoadedImage → ℕ → S → Type 0) → (S → Call → S → Type 0) → (S → StoreView) → (S → Waits) → Loop → ℕ → Option (List ℕ) → Option (List ℕ) → Outcome → Type 0
IsUnwrittenOf starts makes view waits l turns old new Usage = (IsRunnable l.image l.cores → ⊥) × Keeps old new
IsUnwrittenOf starts makes view waits l turns old new (Stopped Write) = IsRunnable l.image l.cores × (text : List ℕ) × IsAll starts makes view waits l turns text × AppendsPrefix old new text
IsUnwrittenOf starts makes view waits l turns old new (Stopped cause) = IsAllStop starts makes view waits l turns cause × Keeps old new
IsUnwrittenOf starts makes view waits l turns old new outcome = ⊥

-- ---- of a text

abbrev pub IsWritten : {S : Type 0} → (LoadedImage → ℕ → S → Type 0) → (S → Call → S → Type 0) → (S → StoreView) → (S → Waits) → ℕ → Settings → ℕ → List ℕ → Option (List ℕ) → Option (List ℕ) → Type 0
IsWritten starts makes view waits cores settings turns text old new =
    MatchResult (image_text text) (λ image. IsWrittenOf starts makes view waits (loop_with image cores settings) turns old new) (λ fault. ⊥)

abbrev pub IsUnwritten : {S : Type 0} → (LoadedImage → ℕ → S → Type 0) → (S → Call → S → Type 0) → (S → StoreView) → (S → Waits) → ℕ → Settings → ℕ → List ℕ → Option (List ℕ) → Option (List ℕ) → Outcome → Type 0
IsUnwritten starts makes view waits cores settings turns text old new (BadImage fault) = IsRefusal fault.kind fault (image_text text) × Keeps old new
IsUnwritten starts makes view waits cores settings turns text old new (Stopped NoMemory) = Keeps old new
IsUnwritten starts makes view waits cores settings turns text old new outcome =
    MatchResult (image_text text) (λ image. IsUnwrittenOf starts makes view waits (loop_with image cores settings) turns old new outcome) (λ fault. ⊥)

-- it was written, and the status is 0; or the program concludes with what kept it from being written
abbrev pub AllAnswers : {S : Type 0} → (LoadedImage → ℕ → S → Type 0) → (S → Call → S → Type 0) → (S → StoreView) → (S → Waits) → ℕ → Settings → ℕ → List ℕ → Stream → Stream → ℕ → Type 0
AllAnswers starts makes view waits cores settings turns text output errors status =
    ((status ≡ 0) × IsWritten starts makes view waits cores settings turns text output.old output.new × Keeps errors.old errors.new)
    ⊎ Conclusion (IsUnwritten starts makes view waits cores settings turns text output.old output.new) errors.old errors.new status
