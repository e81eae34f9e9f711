-- That the turns that a history shows make it again.
-- Source: this project.
use Rattle.std.specs.Prelude.{◌≡◌, ◌≢◌, ℕ, List, take, slice_get, Option, Ok}
use Rattle.rv32_image.specs.Image.{LoadedImage}
use Rattle.rv32_exec.specs.declared.sequential.End.{End}
use Rattle.spec_history.specs.declared.entry.Entry.{Entry}
use Rattle.violations.specs.View.{StoreView, Waits}
use Rattle.violations.specs.Calls.{Call}
use Rattle.homefree.specs.declared.book.Loop.{Loop}
use Rattle.homefree.specs.Retraced.{turns_of}
use Rattle.all_schedules.specs.Made.{Makes}

-- the turns that the history shows, over a fresh store, make it again
abbrev pub IsMadeAgain : {S : Type 0} → (LoadedImage → ℕ → S → Type 0) → (S → Call → S → Type 0) → (S → StoreView) → (S → Waits) → Loop → List Entry → Type 0
IsMadeAgain starts makes view waits l history = (end : Option End) × Makes starts makes view waits l (turns_of l.cores history) (Ok end) history

-- two histories part at this place, counted from 0: up to it they are the same, and at it they aren't
pub record PartAt (made given : List Entry) (place : ℕ) : Type 0 where
  pub same : take place made ≡ take place given
  pub other : slice_get made place ≢ slice_get given place

-- the turns that the entries show make a history that parts from them at this place
pub record Parts {S : Type 0} (starts : LoadedImage → ℕ → S → Type 0) (calls : S → Call → S → Type 0) (view : S → StoreView) (waits : S → Waits) (l : Loop) (entries : List Entry) (place : ℕ) : Type 0 where
  pub result : Option End
  pub history : List Entry
  pub makes : Makes starts calls view waits l (turns_of l.cores entries) (Ok result) history
  pub part : PartAt history entries place
