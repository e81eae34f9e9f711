-- The four quantities, added one by one.
use Rattle.std.specs.Prelude.{ℕ, ◌+◌, ◌≤◌}
use Rattle.run_ledger.specs.declared.counts.Counts.{Counts}

-- nothing is counted
abbrev pub no_counts : Counts
no_counts = record { loads = 0; stores = 0; restarts = 0; commits = 0 }

-- what two holders counted
abbrev pub sum_of : Counts → Counts → Counts
sum_of a b = record { loads = a.loads + b.loads; stores = a.stores + b.stores; restarts = a.restarts + b.restarts; commits = a.commits + b.commits }

-- no quantity is above n
pub record IsAtMost (n : ℕ) (c : Counts) : Type 0 where
  pub loads : c.loads ≤ n
  pub stores : c.stores ≤ n
  pub restarts : c.restarts ≤ n
  pub commits : c.commits ≤ n
