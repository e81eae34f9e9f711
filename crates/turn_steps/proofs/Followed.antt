-- What was shown before a turn, after it.
use Rattle.std.proofs.Common.{◌≡◌, ℕ, List, Option, Result, option_map, sym, ap, ◌∙◌}
use Rattle.rv32_exec.specs.Hart.{HartState}
use Rattle.run_ledger.specs.declared.counts.Counts.{Counts}
use Rattle.violations.specs.View.{Shape, StoreView, Waits}
use Rattle.violations.specs.Calls.{Call}
use Rattle.violations.specs.Rule.{shape_of}
use Rattle.homefree.specs.declared.answer.Answer.{Answer}
use Rattle.homefree.specs.declared.fault.TurnFault.{TurnFault}
use Rattle.homefree.specs.BookView.{BookView}
use Rattle.homefree.specs.Driven.{TurnedWith, arrival_of, driver}
use Rattle.homefree.proofs.Books.Drives.{turned_at}
use Rattle.homefree.specs.Grown.{GrowsBy}
use Rattle.homefree.specs.InStep.{InStep}
use Rattle.turn_steps.specs.Telling.{Follows, IsCurrent}
use Rattle.turn_steps.proofs.Leaving.{turn_keeps_memory, turn_keeps_rows}

module _ {S H : Type 0} (view : S → StoreView) (waits : S → Waits) (fits : H → Shape → Type 0) (shows : H → S → Type 0) (store : H) (memory : List (List ℕ))
    (old new : BookView S) (shares shares' : Counts) (core : ℕ) (hart : Option HartState) (answer : Result Answer TurnFault) (step : InStep view old) (after : InStep view new)
    (grows : GrowsBy core old new shares shares') (current : IsCurrent view fits shows store memory old) where
  -- the store is of the shape that it had
  shape : (view new.store).shape ≡ (view old.store).shape
  shape = after.shape ∙ ((λ k. shape_of (grows.image k) (grows.cores k)) ∙ sym step.shape)

  pub follows : {makes : S → Call → S → Type 0} → TurnedWith makes view waits (driver old shares) core hart answer (driver new shares') → Follows view shows store memory core old new grows.entries
  follows turned = record {
    history = grows.history;
    leads = record {
      store_is = current.store_is;
      memory_is = current.memory_is;
      shape = shape;
      rows = turn_keeps_rows view waits old new shares shares' core (option_map (arrival_of old.image) hart) answer grows.entries step grows.history (turned_at turned);
      committed = turn_keeps_memory view waits old new shares shares' core (option_map (arrival_of old.image) hart) answer grows.entries step grows.history (turned_at turned);
    };
  }

  -- it is on as many cores
  pub core_count : (cores : ℕ) → old.cores ≡ cores → (view new.store).shape.cores ≡ cores
  core_count cores is = ap (λ (s : Shape). s.cores) after.shape ∙ (grows.cores ∙ is)
