-- What a turn adds to a history.
use Rattle.std.specs.Prelude.{◌≡◌, ℕ, All, List, ◌++◌}
use Rattle.run_ledger.specs.declared.counts.Counts.{Counts}
use Rattle.run_ledger.specs.Counts.{sum_of}
use Rattle.spec_history.specs.declared.entry.Entry.{Entry}
use Rattle.homefree.specs.BookView.{BookView}
use Rattle.homefree.specs.Counted.{counted_in}

-- the history has some more entries, all of this core, which are counted in the totals and in the shares
pub record GrowsBy {S : Type 0} (core : ℕ) (old new : BookView S) (shares shares' : Counts) : Type 0 where
  pub image : new.image ≡ old.image
  pub cores : new.cores ≡ old.cores
  pub room : new.room ≡ old.room
  pub stopped : new.stopped ≡ old.stopped
  pub entries : List Entry
  pub history : new.history ≡ old.history ++ entries
  pub by : All (λ e. e.by ≡ core) entries
  pub totals : new.totals ≡ sum_of old.totals (counted_in entries)
  pub held : shares' ≡ sum_of shares (counted_in entries)
