-- What a core does to the book while it holds it.
use Rattle.std.specs.Prelude.{◌≡◌, ℕ, All, List, ◌++◌}
use Rattle.run_ledger.specs.declared.counts.Counts.{Counts}
use Rattle.run_ledger.specs.Counts.{sum_of}
use Rattle.spec_history.specs.declared.entry.Entry.{Entry}
use Rattle.homefree.specs.BookView.{BookView, IsOfSameLoop}
use Rattle.homefree.specs.Counted.{counted_in}

-- the history has some more entries, all of this core, which are counted in the shares
pub record Adds {S : Type 0} (core : ℕ) (old new : BookView S) (shares shares' : Counts) : Type 0 where
  pub same : IsOfSameLoop old new
  pub entries : List Entry
  pub history : new.history ≡ old.history ++ entries
  pub by : All (λ e. e.by ≡ core) entries
  pub held : shares' ≡ sum_of shares (counted_in entries)
