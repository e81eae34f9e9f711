-- A drive of an empty book makes its history.
use Rattle.std.proofs.Common.{◌≡◌, ℕ, List, [], Option, None, Result, Err, refl, subst}
use Rattle.rv32_image.specs.Image.{LoadedImage}
use Rattle.rv32_exec.specs.declared.sequential.End.{End}
use Rattle.run_ledger.specs.declared.counts.Counts.{Counts}
use Rattle.run_ledger.specs.Counts.{no_counts}
use Rattle.violations.specs.View.{StoreView, Waits}
use Rattle.violations.specs.Calls.{Call}
use Rattle.violations.specs.Rule.{IsFresh}
use Rattle.homefree.specs.declared.fault.TurnFault.{TurnFault}
use Rattle.homefree.specs.declared.fault.TurnFault.TheVariants.{HistoryFull, NoMemory}
use Rattle.homefree.specs.BookView.{BookView}
use Rattle.homefree.specs.declared.book.Loop.{Loop}
use Rattle.homefree.specs.Driven.{Driven, driver}
use Rattle.homefree.specs.InStep.{InStep}
use Rattle.homefree.specs.LockView.{loop_of}
use Rattle.all_schedules.specs.Made.{IsFault, IsOfTurns, Makes, loop_on}

-- what holds of every book
pub of_step : {S : Type 0} (view : S → StoreView) (b : BookView S) → InStep view b → IsOfTurns view (loop_of b) b.history
of_step view b step = record { caused = step.caused; kinds = step.kinds; starts = step.starts; passes = step.passes; within = step.within }

unfoldable pub made_history : {S : Type 0} (starts : LoadedImage → ℕ → S → Type 0) (makes : S → Call → S → Type 0) (view : S → StoreView) (waits : S → Waits) (image : LoadedImage) (cores room : ℕ) (schedule : List ℕ) (first last : BookView S) (shares shares' : Counts)
    (result : Result (Option End) TurnFault) → first.image ≡ image → first.cores ≡ cores → first.room ≡ room → first.history ≡ [] → first.totals ≡ no_counts
    → IsFresh image cores (view first.store) → starts image cores first.store → first.stopped ≡ None → shares ≡ no_counts → loop_of last ≡ loop_on image cores room → InStep view last
    → Driven makes view waits (λ _. None) (driver first shares) schedule result (driver last shares') → Makes starts makes view waits (loop_on image cores room) schedule result last.history
made_history starts makes view waits image cores room schedule first last shares shares' result image_is cores_are room_is history totals fresh started stopped none same step driven = record {
  first = first;
  last = driver last shares';
  is_new = record {
    loop = (λ k. record { image = image_is k; cores = cores_are k; room = room_is k });
    history = history;
    totals = totals;
    store = fresh;
    started = started;
    stopped = stopped;
  };
  driven = subst (λ (c : Counts). Driven makes view waits (λ _. None) (driver first c) schedule result (driver last shares')) none driven;
  history_is = refl;
  of_turns = subst (λ (l : Loop). IsOfTurns view l last.history) same (of_step view last step);
}

-- the fault of a drive is that of its schedule
pub faults : {S : Type 0} (starts : LoadedImage → ℕ → S → Type 0) (makes : S → Call → S → Type 0) (view : S → StoreView) (waits : S → Waits) (image : LoadedImage) (cores room : ℕ) (schedule : List ℕ) (last : BookView S) (fault : TurnFault)
    → Makes starts makes view waits (loop_on image cores room) schedule (Err fault) last.history → IsFault starts makes view waits (loop_on image cores room) schedule fault
faults starts makes view waits image cores room schedule last HistoryFull made = (last.history, made)
faults starts makes view waits image cores room schedule last NoMemory made = tt
