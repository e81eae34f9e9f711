-- What the laws take of a history, and what they say.
use Rattle.std.specs.Prelude.{◌≡◌, ℕ, false, List, Some, slice_get}
use Rattle.rv32_image.specs.Image.{LoadedImage}
use Rattle.rv32_exec.specs.Hart.{HartState, start_of}
use Rattle.rv32_exec.specs.Sequential.{Runs, after_steps}
use Rattle.spec_history.specs.declared.entry.Entry.{Entry}
use Rattle.spec_history.specs.FlatState.{FlatState}
use Rattle.spec_history.specs.Replay.{replay}
use Rattle.spec_history.specs.Conflict.{AreKnown, is_hurt}
use Rattle.homefree.specs.Caused.{MeetInBytes}
use Rattle.homefree.specs.Ending.{NoneStartsAfterCancel}

-- no epoch is violated
abbrev pub NoneIsHurt : List Entry → Type 0
NoneIsHurt history = (place : ℕ) (entry : Entry) → slice_get history place ≡ Some entry → is_hurt entry.what ≡ false

-- no legal history of so many cores has a violation, if each violation is of a kind
abbrev pub NeverOverLines : LoadedImage → ℕ → Type 0
NeverOverLines image cores =
    (history : List Entry) (s : FlatState) → replay image cores history ≡ Some s → NoneStartsAfterCancel history → AreKnown image cores history → NoneIsHurt history

-- none has, if violations meet in bytes that are committed
abbrev pub NeverOverBytes : LoadedImage → ℕ → Type 0
NeverOverBytes image cores =
    (history : List Entry) (s : FlatState) → replay image cores history ≡ Some s → NoneStartsAfterCancel history → MeetInBytes image cores history → NoneIsHurt history

-- the epoch comes to the same harts over both memories, after as many instructions
pub record IsAlike (image : LoadedImage) (epoch : ℕ) (first second : List ℕ) : Type 0 where
  pub there : (step : ℕ) (h : HartState) (after : List ℕ) → after_steps image step (start_of image epoch) first ≡ Runs h after
      → (after' : List ℕ) × (after_steps image step (start_of image epoch) second ≡ Runs h after')
  pub back : (step : ℕ) (h : HartState) (after : List ℕ) → after_steps image step (start_of image epoch) second ≡ Runs h after
      → (after' : List ℕ) × (after_steps image step (start_of image epoch) first ≡ Runs h after')
