-- What a turn does, case by case, in the order in which the cases are tried.
-- Source: this project; that the homefree epoch alone commits, and what a violation is, are of Steffan, Colohan, Zhai and
-- Mowry, "A Scalable Approach to Thread-Level Speculation", ISCA 2000.
use Rattle.std.specs.Prelude.{◌≡◌, ◌≢◌, ℕ, ◌+◌, ◌<◌, ◌≤◌, Bool, true, false, List, [], ◌++◌, length, Option, Some, None, IsSome, Result, Ok, Err, if◌then◌else◌}
use Rattle.rv32_image.specs.Image.{LoadedImage}
use Rattle.rv32_exec.specs.declared.stop.Stop.{Stop}
use Rattle.rv32_exec.specs.declared.stop.Stop.TheVariants as stop
use Rattle.rv32_exec.specs.declared.sequential.End.{End}
use Rattle.rv32_exec.specs.declared.sequential.End.TheVariants as end
use Rattle.rv32_exec.specs.Hart.{HartState, start_of, stepped}
use Rattle.rv32_exec.specs.Arrival.{Arrival, after_number}
use Rattle.rv32_exec.specs.NextEvent.{next_event}
use Rattle.rv32_exec.specs.Sequential.{exits}
use Rattle.run_ledger.specs.declared.counts.Counts.{Counts}
use Rattle.run_ledger.specs.Counts.{sum_of}
use Rattle.spec_history.specs.declared.entry.Entry.{Entry}
use Rattle.spec_history.specs.declared.entry.What.{What}
use Rattle.spec_history.specs.declared.entry.What.TheVariants.{Start, Load, Store, Restart, Publish, Commit, Fault}
use Rattle.spec_history.specs.FlatState.{CoreState, FlatState, end_at}
use Rattle.violations.specs.declared.step.WaitCause.{WaitCause}
use Rattle.violations.specs.declared.step.WaitCause.TheVariants as wait
use Rattle.violations.specs.View.{StoreView, Waits}
use Rattle.violations.specs.Rule.{IsSameView, IsSameCore, Begins, Loads, Stores, Publishes, LoadsStraight, StoresStraight, Ends}
use Rattle.homefree.specs.declared.answer.Answer.{Answer}
use Rattle.homefree.specs.declared.answer.Answer.TheVariants.{Go, Again, Left, Over, Stopped}
use Rattle.homefree.specs.declared.answer.Cause.{Cause}
use Rattle.homefree.specs.declared.answer.Cause.TheVariants.{NoEpoch, NotHomefree, NoWay, OrbFull, OrbBusy}
use Rattle.homefree.specs.declared.answer.StopCause.{StopCause}
use Rattle.homefree.specs.declared.fault.TurnFault.{TurnFault}
use Rattle.homefree.specs.declared.fault.TurnFault.TheVariants.{HistoryFull, NoMemory}
use Rattle.homefree.specs.Hurts.{entry, hurts, cancels}
use Rattle.homefree.specs.Counted.{counted_in}
use Rattle.homefree.specs.BookView.{BookView, free_entries, IsFull}

-- ---- a turn that has room

-- where it is taken: the image, how many cores there are, why the store makes an access wait, the state that the history leads
-- to, the core, and what it hands in
pub record Turn : Type 0 where
  pub image : LoadedImage
  pub cores : ℕ
  pub waits : Waits
  pub state : FlatState
  pub core : ℕ
  pub next : Option Arrival

-- what comes of it: its entries and its answer
pub record Outcome : Type 0 where
  pub entries : List Entry
  pub answer : Answer

abbrev pub does : List Entry → Answer → Outcome
does entries answer = record { entries = entries; answer = answer }

abbrev pub entry_of : Turn → What → List Entry
entry_of t what = entry t.core what

abbrev pub hurts_of : Turn → (ℕ → Bool) → List Entry
hurts_of t hurt = hurts t.cores t.state t.core hurt

-- ---- a core that is idle

-- it begins the next epoch
pub record IsStart (t : Turn) (v w : StoreView) (out : Outcome) : Type 0 where
  pub idle : t.state.cores t.core ≡ None
  pub left : t.state.next_epoch < t.image.epochs
  pub store : Begins v w t.core t.state.next_epoch
  pub out_is : out ≡ does (entry_of t (Start t.state.next_epoch)) (Go (start_of t.image t.state.next_epoch))

-- no epoch is left
pub record IsNoneLeft (t : Turn) (v w : StoreView) (out : Outcome) : Type 0 where
  pub idle : t.state.cores t.core ≡ None
  pub left : t.image.epochs ≤ t.state.next_epoch
  pub store : w ≡ v
  pub out_is : out ≡ does [] (Again NoEpoch)

-- ---- a core that is hurt

-- it begins its epoch again
pub record IsRestart (t : Turn) (v w : StoreView) (out : Outcome) : Type 0 where
  pub core : CoreState
  pub runs : t.state.cores t.core ≡ Some core
  pub hurt : core.hurt ≡ true
  pub store : Begins v w t.core core.epoch
  pub out_is : out ≡ does (entry_of t Restart) (Go (start_of t.image core.epoch))

-- ---- a core that hands in nothing, or a stop that was reached from another hart than its own

abbrev pub IsStale : Option Arrival → HartState → Type 0
IsStale None hart = Unit {0}
IsStale (Some arrival) hart = arrival.base ≢ hart

-- it is told its hart
pub record IsTold (t : Turn) (v w : StoreView) (out : Outcome) : Type 0 where
  pub core : CoreState
  pub runs : t.state.cores t.core ≡ Some core
  pub unhurt : core.hurt ≡ false
  pub stale : IsStale t.next core.hart
  pub store : w ≡ v
  pub out_is : out ≡ does [] (Go core.hart)

-- ---- a core that hands in the stop that was reached from its hart

abbrev pub IsHandedIn : Option Arrival → HartState → Type 0
IsHandedIn None hart = ⊥
IsHandedIn (Some arrival) hart = arrival.base ≡ hart

-- the core runs, isn't hurt, and is at this stop
pub record IsAt (t : Turn) (core : CoreState) (at : Stop) : Type 0 where
  pub runs : t.state.cores t.core ≡ Some core
  pub unhurt : core.hurt ≡ false
  pub handed_in : IsHandedIn t.next core.hart
  pub event : (next_event t.image core.hart).at ≡ at

-- so, and it runs speculatively
pub record Speculates (t : Turn) (core : CoreState) (at : Stop) : Type 0 where
  pub is_at : IsAt t core at
  pub speculates : core.straight ≡ false

abbrev pub publishes_unless : Bool → StoreView → StoreView → ℕ → (ℕ → Bool) → Type 0
publishes_unless true v x by hurt = (x ≡ v) × ((k : ℕ) → hurt k ≡ false)
publishes_unless false v x by hurt = Publishes v x by hurt

-- so, it runs the homefree epoch, and publishes unless it is straight
pub record Publishing (t : Turn) (core : CoreState) (at : Stop) (v x : StoreView) (hurt : ℕ → Bool) : Type 0 where
  pub is_at : IsAt t core at
  pub homefree : core.epoch ≡ t.state.homefree
  pub publishes : publishes_unless core.straight v x t.core hurt

-- the hart after a load of this value, and after a store
abbrev pub loaded_hart : LoadedImage → CoreState → ℕ → HartState
loaded_hart image core value = let event = next_event image core.hart in after_number event.now event.at value

abbrev pub stored_hart : LoadedImage → CoreState → HartState
stored_hart image core = stepped (next_event image core.hart).now

-- a speculative load: the cores that it hurts in order of core number, and then the load
pub record IsLoad (t : Turn) (v w : StoreView) (out : Outcome) : Type 0 where
  pub core : CoreState
  pub address : ℕ
  pub width : ℕ
  pub rd : ℕ
  pub value : ℕ
  pub signed : Bool
  pub hurt : ℕ → Bool
  pub comes : Speculates t core (stop.Load address width signed rd)
  pub goes_on : t.waits.load t.core address width ≡ None
  pub store : Loads v w t.core address width value hurt
  pub out_is : out ≡ does (hurts_of t hurt ++ entry_of t (Load address width value)) (Go (loaded_hart t.image core value))

-- a speculative store
pub record IsStore (t : Turn) (v w : StoreView) (out : Outcome) : Type 0 where
  pub core : CoreState
  pub address : ℕ
  pub width : ℕ
  pub value : ℕ
  pub hurt : ℕ → Bool
  pub comes : Speculates t core (stop.Store address width value)
  pub goes_on : t.waits.store t.core address width ≡ None
  pub store : Stores v w t.core address width value hurt
  pub out_is : out ≡ does (hurts_of t hurt ++ entry_of t (Store address width value)) (Go (stored_hart t.image core))

abbrev pub cause_of : WaitCause → Cause
cause_of wait.NoWay = NoWay
cause_of wait.OrbFull = OrbFull
cause_of wait.OrbBusy = OrbBusy

-- why a core's access at this stop waits, where it does
abbrev pub wait_at : Waits → ℕ → Stop → Option WaitCause
wait_at waits core (stop.Load address width signed rd) = waits.load core address width
wait_at waits core (stop.Store address width value) = waits.store core address width
wait_at waits core stop.Ended = None
wait_at waits core (stop.Fault cause pc) = None

-- the store waits at a speculative access, and the epoch isn't the homefree one: the core is told the store's cause
pub record IsWait (t : Turn) (v w : StoreView) (out : Outcome) : Type 0 where
  pub core : CoreState
  pub at : Stop
  pub cause : WaitCause
  pub comes : Speculates t core at
  pub waits : wait_at t.waits t.core at ≡ Some cause
  pub later : core.epoch ≢ t.state.homefree
  pub store : w ≡ v
  pub out_is : out ≡ does [] (Again (cause_of cause))

-- the entries of a core that publishes unless it is straight
abbrev pub publish_of : Turn → CoreState → (ℕ → Bool) → List Entry
publish_of t core hurt = if core.straight then [] else hurts_of t hurt ++ entry_of t Publish

-- a load of the homefree core, which is straight, or else publishes first, since the store waits
pub record IsStraightLoad (t : Turn) (v w : StoreView) (out : Outcome) : Type 0 where
  pub core : CoreState
  pub address : ℕ
  pub width : ℕ
  pub rd : ℕ
  pub value : ℕ
  pub signed : Bool
  pub between : StoreView
  pub first : ℕ → Bool
  pub hurt : ℕ → Bool
  pub comes : Publishing t core (stop.Load address width signed rd) v between first
  pub waits : core.straight ≡ false → IsSome (t.waits.load t.core address width)
  pub store : LoadsStraight between w t.core address width value hurt
  pub out_is : out ≡ does (publish_of t core first ++ (hurts_of t hurt ++ entry_of t (Load address width value))) (Go (loaded_hart t.image core value))

-- a store of it
pub record IsStraightStore (t : Turn) (v w : StoreView) (out : Outcome) : Type 0 where
  pub core : CoreState
  pub address : ℕ
  pub width : ℕ
  pub value : ℕ
  pub between : StoreView
  pub first : ℕ → Bool
  pub hurt : ℕ → Bool
  pub comes : Publishing t core (stop.Store address width value) v between first
  pub waits : core.straight ≡ false → IsSome (t.waits.store t.core address width)
  pub store : StoresStraight between w t.core address width value hurt
  pub out_is : out ≡ does (publish_of t core first ++ (hurts_of t hurt ++ entry_of t (Store address width value))) (Go (stored_hart t.image core))

abbrev pub IsEnd : Stop → Type 0
IsEnd (stop.Load address width signed rd) = ⊥
IsEnd (stop.Store address width value) = ⊥
IsEnd stop.Ended = Unit {0}
IsEnd (stop.Fault cause pc) = Unit {0}

-- the epoch has ended or faulted, and isn't the homefree one
pub record IsEarly (t : Turn) (v w : StoreView) (out : Outcome) : Type 0 where
  pub core : CoreState
  pub at : Stop
  pub comes : IsAt t core at
  pub ends : IsEnd at
  pub later : core.epoch ≢ t.state.homefree
  pub store : w ≡ v
  pub out_is : out ≡ does [] (Again NotHomefree)

abbrev pub left_or_over : Option End → Answer
left_or_over None = Left
left_or_over (Some end) = Over end

-- the homefree epoch has ended: it publishes unless it is straight, commits, and is left
pub record IsCommit (t : Turn) (v w : StoreView) (out : Outcome) : Type 0 where
  pub core : CoreState
  pub between : StoreView
  pub hurt : ℕ → Bool
  pub comes : Publishing t core stop.Ended v between hurt
  pub stays : exits t.image (next_event t.image core.hart).now ≡ false
  pub store : Ends between w t.core
  pub out_is : out ≡ does (hurts_of t hurt ++ entry_of t Commit) (left_or_over (end_at t.image (t.state.homefree + 1)))

-- all attempts but the core's have ended
pub record CancelsOthers (old new : StoreView) (by : ℕ) : Type 0 where
  pub shape : new.shape ≡ old.shape
  pub cached : new.cached ≡ old.cached
  pub committed : (a : ℕ) → new.committed a ≡ old.committed a
  pub own : IsSameCore old new by
  pub others : (k : ℕ) → k ≢ by → new.attempt k ≡ None

-- it has ended, and exits the loop: each other core that runs an epoch is cancelled first
pub record IsExit (t : Turn) (v w : StoreView) (out : Outcome) : Type 0 where
  pub core : CoreState
  pub between : StoreView
  pub alone : StoreView
  pub hurt : ℕ → Bool
  pub comes : Publishing t core stop.Ended v between hurt
  pub exits : exits t.image (next_event t.image core.hart).now ≡ true
  pub cancelled : CancelsOthers between alone t.core
  pub store : Ends alone w t.core
  pub out_is : out ≡ does (hurts_of t hurt ++ (cancels t.cores t.state t.core ++ entry_of t Commit)) (Over (end.Exit core.epoch))

-- the homefree epoch has faulted: it publishes unless it is straight, and the loop is over
pub record IsFault (t : Turn) (v w : StoreView) (out : Outcome) : Type 0 where
  pub core : CoreState
  pub cause : ℕ
  pub pc : ℕ
  pub hurt : ℕ → Bool
  pub comes : Publishing t core (stop.Fault cause pc) v w hurt
  pub out_is : out ≡ does (hurts_of t hurt ++ entry_of t (Fault cause pc)) (Over (end.Fault core.epoch cause pc))

-- what comes of the stop
pub data Follows (t : Turn) (v w : StoreView) (out : Outcome) : Type 0 where
  loads : IsLoad t v w out → Follows t v w out
  stores : IsStore t v w out → Follows t v w out
  waits : IsWait t v w out → Follows t v w out
  loads_straight : IsStraightLoad t v w out → Follows t v w out
  stores_straight : IsStraightStore t v w out → Follows t v w out
  is_early : IsEarly t v w out → Follows t v w out
  commits : IsCommit t v w out → Follows t v w out
  exits_loop : IsExit t v w out → Follows t v w out
  faults : IsFault t v w out → Follows t v w out

-- what the store did, from v to w, and what comes of a turn that has room
pub data Acts (t : Turn) (v w : StoreView) (out : Outcome) : Type 0 where
  starts : IsStart t v w out → Acts t v w out
  finds_none : IsNoneLeft t v w out → Acts t v w out
  restarts : IsRestart t v w out → Acts t v w out
  is_told : IsTold t v w out → Acts t v w out
  follows : Follows t v w out → Acts t v w out

-- ---- a whole turn

-- the history has these entries more, counted in the totals and in the shares; the store aside, nothing else changes
pub record Grows {S : Type 0} (old new : BookView S) (shares shares' : Counts) (entries : List Entry) : Type 0 where
  pub image : new.image ≡ old.image
  pub cores : new.cores ≡ old.cores
  pub room : new.room ≡ old.room
  pub history : new.history ≡ old.history ++ entries
  pub totals : new.totals ≡ sum_of old.totals (counted_in entries)
  pub held : shares' ≡ sum_of shares (counted_in entries)
  pub stopped : new.stopped ≡ old.stopped

-- the loop isn't over, the book isn't stopped, and the history has room
pub record MayAct {S : Type 0} (old : BookView S) (s : FlatState) : Type 0 where
  pub going : s.end ≡ None
  pub unstopped : old.stopped ≡ None
  pub free : length old.history + free_entries old ≤ old.room

-- the loop is over
pub record IsOver {S : Type 0} (old : BookView S) (s : FlatState) (answer : Result Answer TurnFault) : Type 0 where
  pub end : End
  pub over : s.end ≡ Some end
  pub answer_is : answer ≡ Ok (Over end)

-- the book is stopped
pub record IsStopped {S : Type 0} (old : BookView S) (s : FlatState) (answer : Result Answer TurnFault) : Type 0 where
  pub going : s.end ≡ None
  pub cause : StopCause
  pub stopped : old.stopped ≡ Some cause
  pub answer_is : answer ≡ Ok (Stopped cause)

-- there is no room
pub record HasNoRoom {S : Type 0} (old : BookView S) (s : FlatState) (answer : Result Answer TurnFault) : Type 0 where
  pub going : s.end ≡ None
  pub unstopped : old.stopped ≡ None
  pub full : IsFull old
  pub answer_is : answer ≡ Err HistoryFull

-- the turn of a core that hands this in, of a book whose history leads to the state s
abbrev pub turn_at : {S : Type 0} → (S → Waits) → BookView S → FlatState → ℕ → Option Arrival → Turn
turn_at waits_of b s core next =
    record { image = b.image; cores = b.cores; waits = waits_of b.store; state = s; core = core; next = next }

-- the turn is taken, over a store that has room for it
pub record Acting {S : Type 0} (view : S → StoreView) (waits : S → Waits) (old new : BookView S) (s : FlatState) (shares shares' : Counts) (core : ℕ) (next : Option Arrival) (answer : Result Answer TurnFault) : Type 0 where
  pub may : MayAct old s
  pub reserved : StoreView
  pub same : IsSameView (view old.store) reserved
  pub out : Outcome
  pub acts : Acts (turn_at waits old s core next) reserved (view new.store) out
  pub grows : Grows old new shares shares' out.entries
  pub answer_is : answer ≡ Ok out.answer

-- a turn of a core that hands this in, from a book whose history leads to the state s, and from these shares
pub data Turned {S : Type 0} (view : S → StoreView) (waits : S → Waits) (old : BookView S) (s : FlatState) (shares : Counts) (core : ℕ) (next : Option Arrival)
    (answer : Result Answer TurnFault) (new : BookView S) (shares' : Counts) : Type 0 where
  over : IsOver old s answer → new ≡ old → shares' ≡ shares → Turned view waits old s shares core next answer new shares'
  stopped : IsStopped old s answer → new ≡ old → shares' ≡ shares → Turned view waits old s shares core next answer new shares'
  full : HasNoRoom old s answer → new ≡ old → shares' ≡ shares → Turned view waits old s shares core next answer new shares'
  -- memory was refused: nothing has changed but what the store can do without asking for it
  no_memory : MayAct old s → IsSameView (view old.store) (view new.store) → Grows old new shares shares' [] → answer ≡ Err NoMemory
      → Turned view waits old s shares core next answer new shares'
  acts : Acting view waits old new s shares shares' core next answer → Turned view waits old s shares core next answer new shares'
