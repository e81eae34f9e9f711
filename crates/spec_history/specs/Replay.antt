-- The replay of a history, and what it counts.
use Rattle.std.specs.Prelude.{ℕ, ◌+◌, List, [], ◌∷◌, Option, Some, None}
use Rattle.rv32_image.specs.Image.{LoadedImage}
use Rattle.spec_history.specs.declared.entry.Entry.{Entry}
use Rattle.spec_history.specs.declared.entry.What.{What}
use Rattle.spec_history.specs.declared.entry.What.TheVariants.{Load, Store, Restart, Commit}
use Rattle.spec_history.specs.declared.illegal.Illegal.{Illegal}
use Rattle.spec_history.specs.FlatState.{FlatState, first_state}
use Rattle.spec_history.specs.Effect.{effect}
use Rattle.spec_history.specs.Refusal.{refusal_of}

abbrev pub where_legal : Option Illegal → Option FlatState → Option FlatState
where_legal None next = next
where_legal (Some refusal) next = None

-- the state after the entries, from this one on, or none where one of them is refused
unfoldable pub replay_from : LoadedImage → ℕ → FlatState → List Entry → Option FlatState
replay_from image count s [] = Some s
replay_from image count s (entry ∷ entries) =
    where_legal (refusal_of image count s entry) (replay_from image count (effect image s entry) entries)

-- the state after a history of a machine of this many cores, or none where one of its entries is refused
unfoldable pub replay : LoadedImage → ℕ → List Entry → Option FlatState
replay image count entries = replay_from image count (first_state image) entries

-- how many loads, stores, restarts and commits
pub record HistoryCounts : Type 0 where
  pub loads : ℕ
  pub stores : ℕ
  pub restarts : ℕ
  pub commits : ℕ

abbrev pub no_counts : HistoryCounts
no_counts = record { loads = 0; stores = 0; restarts = 0; commits = 0 }

abbrev pub count_of : What → HistoryCounts
count_of (Load address width value) = record no_counts { loads = 1 }
count_of (Store address width value) = record no_counts { stores = 1 }
count_of Restart = record no_counts { restarts = 1 }
count_of Commit = record no_counts { commits = 1 }
count_of what = no_counts

abbrev pub plus : HistoryCounts → HistoryCounts → HistoryCounts
plus a b = record {
  loads = a.loads + b.loads;
  stores = a.stores + b.stores;
  restarts = a.restarts + b.restarts;
  commits = a.commits + b.commits;
}

unfoldable pub counts_of : List Entry → HistoryCounts
counts_of [] = no_counts
counts_of (entry ∷ entries) = plus (count_of entry.what) (counts_of entries)
