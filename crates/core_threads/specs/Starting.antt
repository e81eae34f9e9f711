-- The passes of threads that are being started, and of the starting thread, which holds the book meanwhile.
use Rattle.std.specs.Prelude.{◌≡◌, ◌<◌, ◌≤◌, ◌+◌, ℕ, [], length, Some}
use Rattle.spec_history.specs.declared.entry.What.{What}
use Rattle.ticket_lock.specs.Known.{LockOf, Hold, mine}
use Rattle.homefree.specs.declared.book.Loop.{Loop}
use Rattle.homefree.specs.BookView.{BookView}
use Rattle.homefree.specs.LockView.{loop_of, past_of}
use Rattle.homefree.specs.Room.{most_room}
use Rattle.core_threads.specs.Passes.{Knows}

-- the pass covers the numbers lo..hi of the lock
abbrev pub Covers : LockOf Loop → ℕ → ℕ → Knows → Type 0
Covers l lo hi p = (p.lock ≡ Some l) × (p.lo ≡ lo) × (p.hi ≡ hi)

-- a pass of the lock that has made no entry
pub record IsNew (l : LockOf Loop) (p : Knows) : Type 0 where
  pub lock : p.lock ≡ Some l
  pub some : p.lo < p.hi
  pub none : mine p ≡ []
  pub few : length p.seen ≤ most_room

abbrev pub IsNewOf : LockOf Loop → ℕ → ℕ → Knows → Type 0
IsNewOf l lo hi p = IsNew l p × (p.lo ≡ lo) × (p.hi ≡ hi)

-- such a pass holds the book, and has made no entry
pub record HasBook {S : Type 0} (l : LockOf Loop) (h : Hold Loop What (BookView S)) : Type 0 where
  pub lock : h.pass.lock ≡ Some l
  pub some : h.pass.lo < h.pass.hi
  pub none : mine h.pass ≡ []
  pub seen : h.pass.seen ≡ past_of h.value.history
  pub fixed : loop_of h.value ≡ l.fixed

abbrev pub HasBookAs : {S : Type 0} → LockOf Loop → ℕ → Hold Loop What (BookView S) → Type 0
HasBookAs l n h = HasBook l h × (h.pass.lo ≡ n) × (h.pass.hi ≡ n + 1)
