-- The counts of a history: none is above its length, and shares that count no more than the totals still do after a turn.
use Rattle.std.proofs.Common.{◌≡◌, List, [], ◌∷◌, length, arith}
use Rattle.run_ledger.specs.declared.counts.Counts.{Counts}
use Rattle.run_ledger.specs.Counts.{sum_of, IsAtMost}
use Rattle.spec_history.specs.declared.entry.Entry.{Entry}
use Rattle.spec_history.specs.declared.entry.What.{What}
use Rattle.spec_history.specs.declared.entry.What.TheVariants.{Start, Load, Store, Hurt, Cancel, Restart, Publish, Commit, Fault}
use Rattle.spec_history.specs.Replay.{count_of, counts_of}
use Rattle.homefree.specs.Counted.{as_counts, counted_in, IsNoMore}

one_at_most : (what : What) → IsAtMost 1 (as_counts (count_of what))
one_at_most (Start epoch) = record { loads = omega arith; stores = omega arith; restarts = omega arith; commits = omega arith }
one_at_most (Load address width value) = record { loads = omega arith; stores = omega arith; restarts = omega arith; commits = omega arith }
one_at_most (Store address width value) = record { loads = omega arith; stores = omega arith; restarts = omega arith; commits = omega arith }
one_at_most (Hurt epoch) = record { loads = omega arith; stores = omega arith; restarts = omega arith; commits = omega arith }
one_at_most (Cancel epoch) = record { loads = omega arith; stores = omega arith; restarts = omega arith; commits = omega arith }
one_at_most Restart = record { loads = omega arith; stores = omega arith; restarts = omega arith; commits = omega arith }
one_at_most Publish = record { loads = omega arith; stores = omega arith; restarts = omega arith; commits = omega arith }
one_at_most Commit = record { loads = omega arith; stores = omega arith; restarts = omega arith; commits = omega arith }
one_at_most (Fault cause pc) = record { loads = omega arith; stores = omega arith; restarts = omega arith; commits = omega arith }

-- no count of a history is above its length
pub few_counts : (entries : List Entry) → IsAtMost (length entries) (counted_in entries)
unfolding counts_of
few_counts [] = record { loads = omega arith; stores = omega arith; restarts = omega arith; commits = omega arith }
few_counts (entry ∷ rest) =
    let one = one_at_most entry.what in
    let more = few_counts rest in
    let ol = one.loads in let os = one.stores in let or = one.restarts in let oc = one.commits in
    let ml = more.loads in let ms = more.stores in let mr = more.restarts in let mc = more.commits in
    record { loads = omega arith; stores = omega arith; restarts = omega arith; commits = omega arith }

-- both grow by the same
pub still_no_more : (a b c : Counts) → IsNoMore a b → IsNoMore (sum_of a c) (sum_of b c)
still_no_more a b c less =
    let l = less.loads in let s = less.stores in let r = less.restarts in let m = less.commits in
    record { loads = omega arith; stores = omega arith; restarts = omega arith; commits = omega arith }

pub shares_still : (shares totals shares' totals' more : Counts) → IsNoMore shares totals → shares' ≡ sum_of shares more → totals' ≡ sum_of totals more → IsNoMore shares' totals'
shares_still shares totals shares' totals' more less held counted = rw (held, counted) (still_no_more shares totals more less)
