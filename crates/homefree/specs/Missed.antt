-- That over caches no later epoch is passed over where a line is written from which it has read, further stores aside.
-- Source: a store of an earlier epoch violates the later ones that have speculatively loaded the line: Steffan, Colohan, Zhai and
-- Mowry, "A Scalable Approach to Thread-Level Speculation", ISCA 2000.
use Rattle.std.specs.Prelude.{◌≡◌, ℕ, ◌<◌, true, false, List, take, Some, is_some, slice_get}
use Rattle.rv32_image.specs.Image.{LoadedImage}
use Rattle.spec_history.specs.declared.entry.Entry.{Entry}
use Rattle.spec_history.specs.declared.entry.What.TheVariants.{Store}
use Rattle.spec_history.specs.FlatState.{CoreState, FlatState}
use Rattle.spec_history.specs.Replay.{replay}
use Rattle.spec_history.specs.Conflict.{meeting, is_beside, line_number, line_has}
use Rattle.violations.specs.View.{StoreView}

-- core k isn't hurt, runs a later epoch than the core of this entry, and has read a byte of a line that the entry writes
pub record IsMissed (image : LoadedImage) (s : FlatState) (e : Entry) (k : ℕ) : Type 0 where
  pub causer : CoreState
  pub causer_runs : s.cores e.by ≡ Some causer
  pub core : CoreState
  pub runs : s.cores k ≡ Some core
  pub unhurt : core.hurt ≡ false
  pub later : causer.epoch < core.epoch
  pub at : ℕ
  pub reads : is_beside image (meeting s e.by e.what k) at ≡ true

-- a speculative store to a line in which the epoch has stored before: the later epochs were told then
pub record IsFurtherStore (image : LoadedImage) (s : FlatState) (e : Entry) : Type 0 where
  pub core : CoreState
  pub runs : s.cores e.by ≡ Some core
  pub speculates : core.straight ≡ false
  pub address : ℕ
  pub width : ℕ
  pub value : ℕ
  pub stores : e.what ≡ Store address width value
  pub before : line_has image (line_number image address) (λ a. is_some (core.own a)) ≡ true

-- an entry that writes passes over nobody, unless it is a further store
abbrev pub PassesOverNone : LoadedImage → ℕ → List Entry → Type 0
PassesOverNone image cores history =
    (place k : ℕ) (e : Entry) (s : FlatState) → slice_get history place ≡ Some e → replay image cores (take place history) ≡ Some s → IsMissed image s e k
    → IsFurtherStore image s e

-- the store is one of caches, always
abbrev pub IsOfCaches : {S : Type 0} → (S → StoreView) → Type 0
IsOfCaches view = (store : _) → (view store).cached ≡ true
