-- The plain store: committed memory, and for each core the bytes of its attempt.
use Rattle.std.specs.Prelude.{◌≡◌, ◌≢◌, ℕ, true, false, ◌≤◌, ◌&&◌, ◌||◌, not, Bool, List, length, Option, Some, None, is_some, slice_get, slice_index}
use Rattle.memory_bytes.specs.Maps.{over}
use Rattle.memory_bytes.specs.Shadow.{byte_in}
use Rattle.rv32_image.specs.declared.machine.Machine.{Machine}
use Rattle.violations.specs.declared.attempt.Attempt.{Attempt}
use Rattle.violations.specs.declared.core_state.CoreState.{CoreState}
use Rattle.violations.specs.View.{StoreView, Runs, IsSettled, is_accessed}
use Rattle.rv32_image.specs.Image.{LoadedImage}
use Rattle.violations.specs.Rule.{IsFresh, IsSameView, Begins, Loads, Stores, Publishes, LoadsStraight, StoresStraight, Ends}
use Rattle.violations.specs.Calls.{Call, Reserve, Begin, Load, Store, Publish, StraightLoad, StraightStore, Leave, Cancel}
use Rattle.violations.specs.CoreState.{AreWithin, HaveRoom}

-- what contracts see of it
pub record PlainView : Type 0 where
  pub code : ℕ
  pub machine : Machine
  pub committed : List ℕ
  pub states : List CoreState
  pub budget : ℕ

abbrev pub attempt_in : Option CoreState → Option Attempt
attempt_in None = None
attempt_in (Some state) = state.attempt

abbrev pub own_in : Option CoreState → ℕ → Option ℕ
own_in None a = None
own_in (Some state) a = byte_in state.own.cells a

abbrev pub guarded_in : Option CoreState → ℕ → Option ℕ
guarded_in None a = None
guarded_in (Some state) a = byte_in state.guarded.cells a

abbrev pub store_view : PlainView → StoreView
store_view p = record {
  shape = record { cores = length p.states; size = length p.committed; code = p.code; machine = p.machine };
  cached = false;
  committed = λ a. slice_index p.committed a;
  attempt = λ k. attempt_in (slice_get p.states k);
  sees = λ k a. over (own_in (slice_get p.states k)) (λ b. slice_index p.committed b) a;
  own = λ k a. is_some (own_in (slice_get p.states k) a);
  guarded = λ k a. is_some (guarded_in (slice_get p.states k) a);
}

-- the states are within memory, and have room for the calls that are left
pub record IsFit (p : PlainView) : Type 0 where
  pub least : 16 ≤ length p.committed
  pub small : length p.committed ≤ 1048576
  pub count : length p.states ≤ 16
  pub within : AreWithin (length p.committed) p.states
  pub room : 1 ≤ p.budget → HaveRoom (length p.committed) p.budget p.states

-- beside the bytes that it guarded, the core guards those that it loads from outside its own, and no others
pub record GuardsLoaded (old new : StoreView) (core address width : ℕ) : Type 0 where
  pub guarded : (a : ℕ) → new.guarded core a ≡ (old.guarded core a || (is_accessed address width a && not (old.own core a)))

-- exactly the other cores that guard one of the written bytes
pub record ViolatesReaders (by : ℕ) (written hurt : ℕ → Bool) (v : StoreView) : Type 0 where
  pub guard : (k : ℕ) → hurt k ≡ true → (a : ℕ) × (written a ≡ true) × (v.guarded k a ≡ true)
  pub others : hurt by ≡ false
  pub all : (k a : ℕ) → k ≢ by → written a ≡ true → v.guarded k a ≡ true → hurt k ≡ true

-- ---- what a call makes of it: the rule, and what this leaves open

pub record MakesLoad (v w : StoreView) (core address width : ℕ) : Type 0 where
  pub value : ℕ
  pub hurt : ℕ → Bool
  pub loads : Loads v w core address width value hurt
  pub guards : GuardsLoaded v w core address width
  pub nobody : (k : ℕ) → hurt k ≡ false

pub record MakesStore (v w : StoreView) (core address width value : ℕ) : Type 0 where
  pub hurt : ℕ → Bool
  pub stores : Stores v w core address width value hurt
  pub nobody : (k : ℕ) → hurt k ≡ false

pub record MakesPublish (v w : StoreView) (core : ℕ) : Type 0 where
  pub hurt : ℕ → Bool
  pub publishes : Publishes v w core hurt

pub record MakesStraightLoad (v w : StoreView) (core address width : ℕ) : Type 0 where
  pub runs : Runs v core true
  pub value : ℕ
  pub hurt : ℕ → Bool
  pub loads : LoadsStraight v w core address width value hurt
  pub nobody : (k : ℕ) → hurt k ≡ false

pub record MakesStraightStore (v w : StoreView) (core address width value : ℕ) : Type 0 where
  pub runs : Runs v core true
  pub hurt : ℕ → Bool
  pub stores : StoresStraight v w core address width value hurt
  pub violates : ViolatesReaders core (is_accessed address width) hurt v

abbrev pub made_of : Call → StoreView → StoreView → Type 0
made_of Reserve v w = IsSameView v w
made_of (Begin core epoch) v w = Begins v w core epoch
made_of (Load core address width) v w = MakesLoad v w core address width
made_of (Store core address width value) v w = MakesStore v w core address width value
made_of (Publish core) v w = MakesPublish v w core
made_of (StraightLoad core address width) v w = MakesStraightLoad v w core address width
made_of (StraightStore core address width value) v w = MakesStraightStore v w core address width value
made_of (Leave core) v w = Ends v w core
made_of (Cancel core) v w = Ends v w core

-- a call makes the one plain store of the other
pub record Makes (p : PlainView) (call : Call) (q : PlainView) : Type 0 where
  pub before : IsSettled (store_view p)
  pub after : IsSettled (store_view q)
  pub made : made_of call (store_view p) (store_view q)

-- two plain stores hold the same
pub record AreAlike (p q : PlainView) : Type 0 where
  pub one : IsSettled (store_view p)
  pub other : IsSettled (store_view q)
  pub same : IsSameView (store_view p) (store_view q)

-- a plain store as it is made
pub record Starts (image : LoadedImage) (cores : ℕ) (p : PlainView) : Type 0 where
  pub settled : IsSettled (store_view p)
  pub fresh : IsFresh image cores (store_view p)
