-- A run at even speed over an empty book makes its history.
use Rattle.std.proofs.Common.{◌≡◌, ℕ, List, [], Option, Some, None, Result, Ok, Err, ap, subst, ◌∙◌}
use Rattle.rv32_image.specs.Image.{LoadedImage}
use Rattle.rv32_exec.specs.Sequential.{sequential_result}
use Rattle.run_ledger.specs.declared.counts.Counts.{Counts}
use Rattle.run_ledger.specs.Counts.{no_counts}
use Rattle.violations.specs.View.{StoreView, Waits}
use Rattle.violations.specs.Calls.{Call}
use Rattle.violations.specs.Rule.{IsFresh}
use Rattle.homefree.specs.declared.fault.TurnFault.{TurnFault}
use Rattle.homefree.specs.declared.fault.TurnFault.TheVariants.{HistoryFull, NoMemory}
use Rattle.homefree.specs.BookView.{BookView}
use Rattle.homefree.specs.declared.book.Loop.{Loop}
use Rattle.homefree.specs.Driven.{Driven, IsInOrder, driver}
use Rattle.homefree.specs.InStep.{InStep}
use Rattle.homefree.specs.LockView.{loop_of}
use Rattle.even_speed.specs.declared.run.Ran.{Ran}
use Rattle.even_speed.specs.Even.{AccountsFor, Evenly, IfRan, IsShort, IsWhole, Pacing, UnlessRefused, at_first, end_in}
use Rattle.all_schedules.specs.Made.{loop_on}
use Rattle.all_schedules.specs.Evenly.{IsEvenFault, MakesEvenly}
use Rattle.all_schedules.proofs.Drives.{made_history}

ran_weaker : (result : Result (Option Ran) TurnFault) (P Q : Ran → Type 0) → ((ran : Ran) → P ran → Q ran) → IfRan result P → IfRan result Q
ran_weaker (Ok (Some ran)) P Q weaker p = weaker ran p
ran_weaker (Ok None) P Q weaker p = tt
ran_weaker (Err fault) P Q weaker p = tt

-- over a new book
module _ {S : Type 0} (starts : LoadedImage → ℕ → S → Type 0) (makes : S → Call → S → Type 0) (view : S → StoreView) (waits : S → Waits) (keeps : S → Type 0) (paced : Pacing S) (image : LoadedImage) (cores room : ℕ) (schedule : List ℕ) (first last : BookView S) (shares shares' : Counts)
    (image_is : first.image ≡ image) (cores_are : first.cores ≡ cores) (room_is : first.room ≡ room) (history : first.history ≡ []) (totals : first.totals ≡ no_counts)
    (fresh : IsFresh image cores (view first.store)) (started : starts image cores first.store) (stopped : first.stopped ≡ None) (none : shares ≡ no_counts) (same : loop_of last ≡ loop_on image cores room)
    (step : InStep view last) where
  pub makes_evenly : (result : Result (Option Ran) TurnFault) → Driven makes view waits (λ _. None) (driver first shares) schedule (end_in result) (driver last shares')
      → Evenly makes view waits keeps paced at_first (driver first shares) schedule result (driver last shares') → IfRan result (IsWhole first.cores) → IfRan result IsShort → IfRan result (AccountsFor paced first)
      → IfRan result (λ ran. IsInOrder last.image ran.end (view last.store).committed) → MakesEvenly starts makes view waits keeps paced (loop_on image cores room) schedule result last.history
  unfolding made_history
  makes_evenly result driven evenly whole short accounts ends = record {
    makes = made_history starts makes view waits image cores room schedule first last shares shares' (end_in result) image_is cores_are room_is history totals fresh started stopped none same step driven;
    evenly = subst (λ (c : Counts). Evenly makes view waits keeps paced at_first (driver first c) schedule result (driver last shares')) none evenly;
    whole = subst (λ n. IfRan result (IsWhole n)) cores_are whole;
    short = short;
    accounts = accounts;
    end_is = ran_weaker result (λ ran. IsInOrder last.image ran.end (view last.store).committed) (λ ran. ran.end ≡ (sequential_result image).end)
        (λ ran ordered. ordered.end_is ∙ ap (λ (l : Loop). (sequential_result l.image).end) same) ends;
  }

  -- the run came to this
  pub ran_evenly : (result : Result (Option Ran) TurnFault) (ran : Ran) → result ≡ Ok (Some ran)
      → UnlessRefused result (Driven makes view waits (λ _. None) (driver first shares) schedule (end_in result) (driver last shares'))
      → UnlessRefused result (Evenly makes view waits keeps paced at_first (driver first shares) schedule result (driver last shares')) → IfRan result (IsWhole first.cores) → IfRan result IsShort
      → IfRan result (AccountsFor paced first) → IfRan result (λ ran. IsInOrder last.image ran.end (view last.store).committed)
      → MakesEvenly starts makes view waits keeps paced (loop_on image cores room) schedule (Ok (Some ran)) last.history
  ran_evenly (Ok (Some some)) ran is driven evenly whole short accounts ends =
      let same : some ≡ ran = cc in
      subst (λ (x : Ran). MakesEvenly starts makes view waits keeps paced (loop_on image cores room) schedule (Ok (Some x)) last.history) same
      (makes_evenly (Ok (Some some)) driven evenly whole short accounts ends)
  ran_evenly (Ok None) ran is driven evenly whole short accounts ends = absurd cc
  ran_evenly (Err fault) ran is driven evenly whole short accounts ends = absurd cc

  pub faults_evenly : (fault : TurnFault)
      → UnlessRefused (Err fault) (Evenly makes view waits keeps paced at_first (driver first shares) schedule (Err fault) (driver last shares'))
      → UnlessRefused (Err fault) (Driven makes view waits (λ _. None) (driver first shares) schedule (Err fault) (driver last shares'))
      → IsEvenFault starts makes view waits keeps paced (loop_on image cores room) fault
  faults_evenly HistoryFull evenly driven = (schedule, last.history, makes_evenly (Err HistoryFull) driven evenly tt tt tt tt)
  faults_evenly NoMemory evenly driven = tt
