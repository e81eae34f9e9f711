-- Turns that a seed draws over an empty book make its history.
use Rattle.std.proofs.Common.{◌≡◌, ◌≢◌, ℕ, List, [], Option, None, Result, Err, subst}
use Rattle.rv32_image.specs.Image.{LoadedImage}
use Rattle.rv32_exec.specs.declared.sequential.End.{End}
use Rattle.run_ledger.specs.declared.counts.Counts.{Counts}
use Rattle.run_ledger.specs.Counts.{no_counts}
use Rattle.violations.specs.View.{StoreView, Waits}
use Rattle.violations.specs.Calls.{Call}
use Rattle.violations.specs.Rule.{IsFresh}
use Rattle.homefree.specs.declared.fault.TurnFault.{TurnFault}
use Rattle.homefree.specs.declared.fault.TurnFault.TheVariants.{HistoryFull, NoMemory}
use Rattle.homefree.specs.BookView.{BookView}
use Rattle.homefree.specs.Driven.{driver}
use Rattle.homefree.specs.InStep.{InStep}
use Rattle.homefree.specs.LockView.{loop_of}
use Rattle.all_schedules.specs.Made.{loop_on}
use Rattle.all_schedules.specs.Drawn.{DrivesDrawn, IsDrawnFault, MakesDrawn}
use Rattle.all_schedules.proofs.Drives.{made_history}

module _ {S : Type 0} (starts : LoadedImage → ℕ → S → Type 0) (makes : S → Call → S → Type 0) (view : S → StoreView) (waits : S → Waits) (image : LoadedImage) (cores room seed : ℕ) (schedule : List ℕ) (first last : BookView S) (shares shares' : Counts)
    (image_is : first.image ≡ image) (cores_are : first.cores ≡ cores) (room_is : first.room ≡ room) (history : first.history ≡ []) (totals : first.totals ≡ no_counts)
    (fresh : IsFresh image cores (view first.store)) (started : starts image cores first.store) (stopped : first.stopped ≡ None) (none : shares ≡ no_counts) (same : loop_of last ≡ loop_on image cores room)
    (step : InStep view last) where
  pub makes_drawn : (result : Result (Option End) TurnFault) → DrivesDrawn makes view waits cores seed (driver first shares) schedule result (driver last shares')
      → MakesDrawn starts makes view waits (loop_on image cores room) seed schedule result last.history
  unfolding made_history
  makes_drawn result drives = record {
    makes = made_history starts makes view waits image cores room schedule first last shares shares' result image_is cores_are room_is history totals fresh started stopped none same step drives.driven;
    drives = subst (λ (c : Counts). DrivesDrawn makes view waits cores seed (driver first c) schedule result (driver last shares')) none drives;
  }

  pub faults_drawn : (fault : TurnFault) → (◌≢◌ {A = Result (Option End) TurnFault} (Err fault) (Err NoMemory) → DrivesDrawn makes view waits cores seed (driver first shares) schedule (Err fault) (driver last shares'))
      → IsDrawnFault starts makes view waits (loop_on image cores room) seed fault
  faults_drawn HistoryFull drives = (schedule, last.history, makes_drawn (Err HistoryFull) (drives (λ is. absurd cc)))
  faults_drawn NoMemory drives = tt
