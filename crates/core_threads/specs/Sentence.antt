-- The sentence: what holds of a book whenever its lock is free, and of the book that a run gives back.
-- Source: this project; ordered epochs, one of them homefree, are of Steffan, Colohan, Zhai and Mowry, "A Scalable Approach to
-- Thread-Level Speculation", ISCA 2000.
use Rattle.std.specs.Prelude.{◌≡◌, ◌≤◌, ℕ, List, length, Option, Some, None}
use Rattle.rv32_exec.specs.declared.sequential.End.{End}
use Rattle.rv32_exec.specs.Sequential.{published_memory}
use Rattle.run_ledger.specs.declared.counts.Counts.{Counts}
use Rattle.run_ledger.specs.Counts.{no_counts}
use Rattle.spec_history.specs.Conflict.{AreKnown}
use Rattle.spec_history.specs.FlatState.{FlatState}
use Rattle.spec_history.specs.Laws.{Holds}
use Rattle.spec_history.specs.Replay.{replay}
use Rattle.violations.specs.View.{StoreView}
use Rattle.homefree.specs.declared.answer.StopCause.TheVariants.{HistoryFull}
use Rattle.homefree.specs.declared.book.Loop.{Loop}
use Rattle.homefree.specs.Agrees.{Agrees}
use Rattle.homefree.specs.BookView.{BookView, IsFull}
use Rattle.homefree.specs.Caused.{HasCauses}
use Rattle.homefree.specs.Counted.{counted_in}
use Rattle.homefree.specs.Driven.{IsInOrder}
use Rattle.homefree.specs.Ending.{NoneStartsAfterCancel}
use Rattle.homefree.specs.LockView.{loop_of}
use Rattle.homefree.specs.Missed.{PassesOverNone, IsOfCaches}
use Rattle.core_threads.specs.declared.fault.RunFault.{RunFault}
use Rattle.core_threads.specs.declared.fault.RunFault.TheVariants.{NoMemory}
use Rattle.core_threads.specs.Faults.{fault_of}

-- the history replays on the one-thread machine to the state that the book holds, and committed memory is exactly what the epochs
-- before the homefree one, and the instructions that the homefree one has published, leave when run in order from the loaded image;
-- the book's totals are the counts of its history
pub record Stands {S : Type 0} (view : S → StoreView) (b : BookView S) (state : FlatState) : Type 0 where
  pub replays : replay b.image b.cores b.history ≡ Some state
  pub agrees : Agrees state (view b.store)
  pub memory : List ℕ
  pub published : published_memory b.image state.homefree state.published ≡ Some memory
  pub committed : Holds b.image (view b.store).committed memory
  pub totals : b.totals ≡ counted_in b.history

-- the book of a run whose loop is over: it ended as the sequential loop does, with its memory, and the cores counted all that the
-- history has
pub record Finishes {S : Type 0} (view : S → StoreView) (l : Loop) (b : BookView S) (end : End) (totals counted : Counts) : Type 0 where
  pub loop : loop_of b ≡ l
  pub state : FlatState
  pub stands : Stands view b state
  pub over : state.end ≡ Some end
  pub in_order : IsInOrder l.image end (view b.store).committed
  pub totals_are : totals ≡ b.totals
  pub counted_are : counted ≡ b.totals

-- the book of a run that halted: its loop isn't over, the cores counted all that the history has, and the fault is the cause
-- for which the book was stopped, if it was; it was stopped for a full history only where that is full
pub record Halts {S : Type 0} (view : S → StoreView) (l : Loop) (b : BookView S) (fault : RunFault) (counted : Counts) : Type 0 where
  pub loop : loop_of b ≡ l
  pub state : FlatState
  pub stands : Stands view b state
  pub going : state.end ≡ None
  pub counted_are : counted ≡ b.totals
  pub fault_is : fault ≡ fault_of b.stopped
  pub full : b.stopped ≡ Some HistoryFull → IsFull b

-- a run that halted with no book had no memory for the book or its lock
abbrev pub HaltsWith : {S : Type 0} → (S → StoreView) → Loop → Option (BookView S) → RunFault → Counts → Type 0
HaltsWith view l (Some b) fault counted = Halts view l b fault counted
HaltsWith view l None fault counted = (fault ≡ NoMemory) × (counted ≡ no_counts)

-- ---- beside the sentence

-- each violation in the history has its cause and is of a kind, no epoch starts once one has been cancelled, over caches no entry
-- passes over a later epoch that has read in a line which it writes, further stores aside, and the history is within the room
pub record Explains {S : Type 0} (view : S → StoreView) (b : BookView S) : Type 0 where
  pub caused : HasCauses b.history
  pub known : AreKnown b.image b.cores b.history
  pub starts : NoneStartsAfterCancel b.history
  pub passes : IsOfCaches view → PassesOverNone b.image b.cores b.history
  pub within : length b.history ≤ b.room
