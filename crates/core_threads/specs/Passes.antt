-- What a pass of a book's lock knows after turns, and what it has counted.
use Rattle.std.specs.Prelude.{◌≡◌, ◌≤◌, ℕ, List, length, Some, None}
use Rattle.rv32_exec.specs.declared.sequential.End.{End}
use Rattle.run_ledger.specs.declared.counts.Counts.{Counts}
use Rattle.spec_history.specs.declared.entry.What.{What}
use Rattle.spec_history.specs.FlatState.{FlatState}
use Rattle.spec_history.specs.Replay.{replay}
use Rattle.ticket_lock.specs.Past.{StartsWith}
use Rattle.ticket_lock.specs.Known.{Known, mine}
use Rattle.homefree.specs.declared.book.Loop.{Loop}
use Rattle.homefree.specs.Counted.{counted_in}
use Rattle.homefree.specs.LockView.{history_of}
use Rattle.homefree.specs.Room.{most_room}

-- what a pass of a book's lock knows
abbrev pub Knows : Type 0
Knows = Known Loop What

-- the same pass of the same lock, which has seen what it had seen, and perhaps more
pub record IsLater (p q : Knows) : Type 0 where
  pub lock : q.lock ≡ p.lock
  pub lo : q.lo ≡ p.lo
  pub hi : q.hi ≡ p.hi
  pub seen : StartsWith q.seen p.seen

-- how many loads, stores, restarts and commits a past has
abbrev pub counts_in : List (ℕ × What) → Counts
counts_in past = counted_in (history_of past)

-- the shares are the counts of the pass's own entries, and it has seen no more entries than a history may have
pub record IsCounted (p : Knows) (c : Counts) : Type 0 where
  pub counted : c ≡ counts_in (mine p)
  pub few : length p.seen ≤ most_room

-- the loop is over after this past: it replays to a state with an end
pub record IsOver (l : Loop) (past : List (ℕ × What)) : Type 0 where
  pub state : FlatState
  pub replays : replay l.image l.cores (history_of past) ≡ Some state
  pub end : End
  pub over : state.end ≡ Some end

-- the loop isn't over after this past: it replays to a state with no end
pub record IsGoing (l : Loop) (past : List (ℕ × What)) : Type 0 where
  pub state : FlatState
  pub replays : replay l.image l.cores (history_of past) ≡ Some state
  pub going : state.end ≡ None
