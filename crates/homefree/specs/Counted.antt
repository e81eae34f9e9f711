-- What a history counts, as the ledger does.
use Rattle.std.specs.Prelude.{◌≤◌, List}
use Rattle.run_ledger.specs.declared.counts.Counts.{Counts}
use Rattle.spec_history.specs.declared.entry.Entry.{Entry}
use Rattle.spec_history.specs.Replay.{HistoryCounts, counts_of}

abbrev pub as_counts : HistoryCounts → Counts
as_counts c = record { loads = c.loads; stores = c.stores; restarts = c.restarts; commits = c.commits }

-- its loads, stores, restarts and commits
abbrev pub counted_in : List Entry → Counts
counted_in entries = as_counts (counts_of entries)

-- no quantity is above the other's
pub record IsNoMore (a b : Counts) : Type 0 where
  pub loads : a.loads ≤ b.loads
  pub stores : a.stores ≤ b.stores
  pub restarts : a.restarts ≤ b.restarts
  pub commits : a.commits ≤ b.commits
