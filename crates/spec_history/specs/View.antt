-- What contracts see of the flat machine.
use Rattle.std.specs.Prelude.{◌≡◌, ◌⊎◌, ℕ, Bool, true, false, List, length, take, Option, Some, None, slice_get, slice_index}
use Rattle.rv32_exec.specs.declared.sequential.End.{End}
use Rattle.rv32_image.specs.Image.{LoadedImage}
use Rattle.spec_history.specs.declared.entry.Entry.{Entry}
use Rattle.spec_history.specs.declared.entry.What.{What}
use Rattle.spec_history.specs.declared.entry.What.TheVariants.{Load, Store}
use Rattle.spec_history.specs.declared.illegal.Illegal.{Illegal}
use Rattle.spec_history.specs.declared.illegal.Illegal.TheVariants.{NoMemory}
use Rattle.spec_history.specs.declared.cores.Core.{Core}
use Rattle.spec_history.specs.FlatState.{FlatState}
use Rattle.spec_history.specs.Effect.{effect}
use Rattle.spec_history.specs.Refusal.{refusal_of}
use Rattle.spec_history.specs.Replay.{replay}
use Rattle.spec_history.specs.Machine.{cores_of}

-- the image, and all that is kept of the machine
pub record FlatView : Type 0 where
  pub image : LoadedImage
  pub committed : List ℕ
  pub homefree : ℕ
  pub published : ℕ
  pub next_epoch : ℕ
  pub end : Option End
  pub cores : List Core

-- the state that it stands for
abbrev pub state_in : FlatView → FlatState
state_in v = record {
  committed = λ a. slice_index v.committed a;
  homefree = v.homefree;
  published = v.published;
  next_epoch = v.next_epoch;
  end = v.end;
  cores = cores_of v.cores;
}

-- how many cores it has
abbrev pub cores_in : FlatView → ℕ
cores_in v = length v.cores

-- it has the same image and as many cores
pub record IsSameMachine (old new : FlatView) : Type 0 where
  pub image : new.image ≡ old.image
  pub cores : cores_in new ≡ cores_in old

-- some history leads to it
pub record IsReached (image : LoadedImage) (cores : ℕ) (s : FlatState) : Type 0 where
  pub entries : List Entry
  pub replays : replay image cores entries ≡ Some s

-- the entry was legal, and its effect is done
pub record IsApplied (old new : FlatView) (entry : Entry) : Type 0 where
  pub legal : refusal_of old.image (cores_in old) (state_in old) entry ≡ None
  pub effect_is : state_in new ≡ effect old.image (state_in old) entry

-- a load or a store
abbrev pub is_access : What → Bool
is_access (Load address width value) = true
is_access (Store address width value) = true
is_access what = false

-- it is the refusal of the entry; or the entry was a legal access, and memory ran out
abbrev pub IsAnswer : Option Illegal → What → Illegal → Type 0
IsAnswer refusal what illegal = (refusal ≡ Some illegal) ⊎ ((refusal ≡ None) × (illegal ≡ NoMemory) × (is_access what ≡ true))

-- nothing has changed
pub record IsRefused (old new : FlatView) (entry : Entry) (illegal : Illegal) : Type 0 where
  pub answer : IsAnswer (refusal_of old.image (cores_in old) (state_in old) entry) entry.what illegal
  pub unchanged : state_in new ≡ state_in old

-- the entries before this place replay, and the one there is refused so
pub record IsRefusedAt (image : LoadedImage) (cores : ℕ) (entries : List Entry) (place : ℕ) (illegal : Illegal) : Type 0 where
  pub before : FlatState
  pub replays : replay image cores (take place entries) ≡ Some before
  pub entry : Entry
  pub there : slice_get entries place ≡ Some entry
  pub answer : IsAnswer (refusal_of image cores before entry) entry.what illegal

-- or there was no memory for the machine itself
abbrev pub IsAuditFault : LoadedImage → ℕ → List Entry → ℕ → Illegal → Type 0
IsAuditFault image cores entries place illegal =
    IsRefusedAt image cores entries place illegal ⊎ ((place ≡ length entries) × (illegal ≡ NoMemory))
