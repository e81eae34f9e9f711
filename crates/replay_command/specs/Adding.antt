-- How a survey grows by a run.
use Rattle.std.specs.Prelude.{◌≡◌, ◌≢◌, ◌⊎◌, ℕ, ◌+◌, Bool, List, All, AllPairs, Contains, Option, Some, None, is_some, nat_le, if◌then◌else◌}
use Rattle.violations.specs.View.{StoreView}
use Rattle.homefree.specs.BookView.{BookView}
use Rattle.homefree.specs.Counted.{counted_in}
use Rattle.homefree.specs.InStep.{InStep}
use Rattle.trace_text.specs.Printing.{printed_trace}
use Rattle.replay_command.specs.declared.survey.Extreme.{Extreme}
use Rattle.replay_command.specs.declared.survey.Survey.{Survey}
use Rattle.all_schedules.specs.Schedules.{lists_of}

-- the one with fewer restarts; of two with as many, the older
abbrev pub lesser : Option Extreme → Extreme → Extreme
lesser None found = found
lesser (Some old) found = if nat_le old.restarts found.restarts then old else found

-- the one with more
abbrev pub greater : Option Extreme → Extreme → Extreme
greater None found = found
greater (Some old) found = if nat_le found.restarts old.restarts then old else found

-- a text was noted: it stands there, with those that stood there before and no other, each once
pub record IsNoted (old new : List (List ℕ)) (text : List ℕ) : Type 0 where
  pub there : Contains new text
  pub kept : All (Contains new) old
  pub no_other : All (λ x. Contains old x ⊎ (x ≡ text)) new
  pub different : AllPairs (λ a b. a ≢ b) new

-- a run at this place, over or not, with so many restarts and this trace
pub record Adds (place : ℕ) (is_over : Bool) (restarts : ℕ) (trace : List ℕ) (old new : Survey) : Type 0 where
  pub over : new.over ≡ old.over + (if is_over then 1 else 0)
  pub traces : IsNoted (lists_of old.traces.keys) (lists_of new.traces.keys) trace
  pub least : new.least ≡ (if is_over then Some (lesser old.least (record { place = place; restarts = restarts })) else old.least)
  pub most : new.most ≡ (if is_over then Some (greater old.most (record { place = place; restarts = restarts })) else old.most)

-- the history of this book
pub record AddsBook {S : Type 0} (view : S → StoreView) (cores place : ℕ) (b : BookView S) (old new : Survey) : Type 0 where
  pub step : InStep view b
  pub adds : Adds place (is_some step.state.end) (counted_in b.history).restarts (printed_trace cores b.history) old new
