-- What schedules come to together.
-- Source: this project.
use Rattle.std.specs.Prelude.{◌≡◌, ◌≢◌, ℕ, ◌≤◌, Bool, true, false, List, map, All, AllPairs, Contains, count_by, slice_get, Option, Some, None, is_some, Ok}
use Rattle.rv32_image.specs.Image.{LoadedImage}
use Rattle.rv32_exec.specs.declared.sequential.End.{End}
use Rattle.spec_history.specs.declared.entry.Entry.{Entry}
use Rattle.spec_history.specs.FlatState.{FlatState}
use Rattle.spec_history.specs.Replay.{replay}
use Rattle.violations.specs.View.{StoreView, Waits}
use Rattle.violations.specs.Calls.{Call}
use Rattle.homefree.specs.declared.book.Loop.{Loop}
use Rattle.homefree.specs.declared.fault.TurnFault.{TurnFault}
use Rattle.homefree.specs.declared.fault.TurnFault.TheVariants.{HistoryFull, NoMemory}
use Rattle.homefree.specs.Counted.{counted_in}
use Rattle.homefree.specs.Driven.{IsInOrder}
use Rattle.trace_text.specs.Printing.{printed_trace}
use Rattle.replay_command.specs.declared.survey.Extreme.{Extreme}
use Rattle.replay_command.specs.declared.survey.Survey.{Survey}
use Rattle.all_schedules.specs.Schedules.{lists_of}
use Rattle.all_schedules.specs.Made.{IsFull, Makes}

-- ---- what each makes

-- a schedule, the history that it makes, and how the loop has ended by then, where it is over
pub record Run : Type 0 where
  pub schedule : List ℕ
  pub history : List Entry
  pub end : Option End

abbrev pub is_over : Run → Bool
is_over run = is_some run.end

-- how often epochs were begun again
abbrev pub restarts_of : Run → ℕ
restarts_of run = (counted_in run.history).restarts

abbrev pub trace_of : ℕ → Run → List ℕ
trace_of cores run = printed_trace cores run.history

-- a loop that is over has ended as the sequential loop does, with its memory
abbrev pub IsEnd : LoadedImage → FlatState → Option End → Type 0
IsEnd image s (Some end) = IsInOrder image end s.committed
IsEnd image s None = Unit {0}

-- the turns of the schedule make this history, from an empty one on; it replays on the one-thread machine to a state, with this end
pub record IsRun {S : Type 0} (starts : LoadedImage → ℕ → S → Type 0) (calls : S → Call → S → Type 0) (view : S → StoreView) (waits : S → Waits) (l : Loop) (run : Run) : Type 0 where
  pub result : Option End
  pub makes : Makes starts calls view waits l run.schedule (Ok result) run.history
  pub state : FlatState
  pub replays : replay l.image l.cores run.history ≡ Some state
  pub end_is : run.end ≡ state.end
  pub in_order : IsEnd l.image state run.end

-- ---- what they come to together

-- the run at this place is over, and has so many restarts
pub record IsExtreme (runs : List Run) (e : Extreme) : Type 0 where
  pub run : Run
  pub there : slice_get runs e.place ≡ Some run
  pub over : is_over run ≡ true
  pub restarts : e.restarts ≡ restarts_of run

-- no run that is over has fewer restarts; None: none is over
abbrev pub IsLeast : List Run → Option Extreme → Type 0
IsLeast runs (Some e) = IsExtreme runs e × All (λ run. is_over run ≡ true → e.restarts ≤ restarts_of run) runs
IsLeast runs None = All (λ run. is_over run ≡ false) runs

-- no run that is over has more restarts; None: none is over
abbrev pub IsMost : List Run → Option Extreme → Type 0
IsMost runs (Some e) = IsExtreme runs e × All (λ run. is_over run ≡ true → restarts_of run ≤ e.restarts) runs
IsMost runs None = All (λ run. is_over run ≡ false) runs

-- of all these texts each one once
pub record AreEachOnce (all once : List (List ℕ)) : Type 0 where
  pub different : AllPairs (λ a b. a ≢ b) once
  pub there : All (Contains all) once
  pub every : All (Contains once) all

-- how many runs are over, their traces each once, and those with the fewest and with the most restarts
pub record IsSurvey (cores : ℕ) (runs : List Run) (survey : Survey) : Type 0 where
  pub over : survey.over ≡ count_by is_over runs
  pub traces : AreEachOnce (map (trace_of cores) runs) (lists_of survey.traces.keys)
  pub least : IsLeast runs survey.least
  pub most : IsMost runs survey.most

-- each schedule was driven, and together they come to this
pub record Surveys {S : Type 0} (starts : LoadedImage → ℕ → S → Type 0) (makes : S → Call → S → Type 0) (view : S → StoreView) (waits : S → Waits) (l : Loop) (schedules : List (List ℕ)) (survey : Survey) : Type 0 where
  pub runs : List Run
  pub schedules_are : map (λ run. run.schedule) runs ≡ schedules
  pub driven : All (IsRun starts makes view waits l) runs
  pub come_to : IsSurvey l.cores runs survey

-- the turns of one of them may end in this fault
abbrev pub IsFaultOfOne : {S : Type 0} → (LoadedImage → ℕ → S → Type 0) → (S → Call → S → Type 0) → (S → StoreView) → (S → Waits) → Loop → List (List ℕ) → TurnFault → Type 0
IsFaultOfOne starts makes view waits l schedules HistoryFull = (schedule : List ℕ) × Contains schedules schedule × IsFull starts makes view waits l schedule
IsFaultOfOne starts makes view waits l schedules NoMemory = Unit {0}
