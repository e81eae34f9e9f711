-- That the run in which each load waits for what earlier epochs store in order never restarts, and takes just the steps of the limit
-- where loads wait for commits: over stores without caches in which no access waits.
-- Source: this project.
use Rattle.std.specs.Prelude.{◌≡◌, ℕ, false, List, [], None, Some, Ok}
use Rattle.rv32_image.specs.Image.{LoadedImage}
use Rattle.violations.specs.View.{StoreView, Waits as StoreWaits}
use Rattle.violations.specs.Calls.{Call}
use Rattle.homefree.specs.Driven.{Driver}
use Rattle.homefree.specs.InStep.{InStep}
use Rattle.epoch_paths.specs.declared.pieces.Pieces.TheVariants.{Bytes}
use Rattle.epoch_paths.specs.Stored.{AreStores, piece_in}
use Rattle.even_speed.specs.declared.run.Ran.{Ran}
use Rattle.even_speed.specs.Even.{Evenly, Pacing, at_first}
use Rattle.even_speed.specs.Held.{Holding, holding}
use Rattle.limits.specs.declared.limit.Waits.TheVariants.{Commit}
use Rattle.limits.specs.Limits.{IsLimit}

-- a load waits where it reads from outside a byte that an earlier epoch stores in order, until that epoch has committed
pub record HoldsInOrder (image : LoadedImage) (holds : Holding) : Type 0 where
  pub stores : List (ℕ × ℕ)
  pub are : AreStores image (piece_in Bytes image) stores
  pub is : holds ≡ holding [] stores (piece_in Bytes image)

-- stores of this kind have no caches
abbrev pub HasNoCaches : {S : Type 0} → (S → StoreView) → Type 0
HasNoCaches {S} view = (store : S) → (view store).cached ≡ false

-- a run in which loads wait so, and which begins with an empty history, never restarts, and loses no step by it, whatever turns cost
abbrev pub RestartsNever : {S : Type 0} → (S → Call → S → Type 0) → (S → StoreView) → (S → StoreWaits) → (S → Type 0) → Type 0
RestartsNever {S} makes view waits keeps = (paced : Pacing S) (old new : Driver S) (schedule : List ℕ) (ran : Ran)
    → InStep view old.book → old.book.history ≡ [] → HoldsInOrder old.book.image paced.holds
    → Evenly makes view waits keeps paced at_first old schedule (Ok (Some ran)) new → (new.book.totals.restarts ≡ 0) × (ran.account.lost ≡ 0)

-- where turns cost nothing, it takes so many steps
abbrev pub TakesLimit : {S : Type 0} → (S → Call → S → Type 0) → (S → StoreView) → (S → StoreWaits) → (S → Type 0) → Type 0
TakesLimit {S} makes view waits keeps = (paced : Pacing S) (old new : Driver S) (schedule : List ℕ) (ran : Ran) (steps : ℕ)
    → InStep view old.book → old.book.history ≡ [] → HoldsInOrder old.book.image paced.holds → paced.pricing ≡ None
    → Evenly makes view waits keeps paced at_first old schedule (Ok (Some ran)) new
    → IsLimit old.book.image Commit old.book.cores steps → ran.steps ≡ steps
