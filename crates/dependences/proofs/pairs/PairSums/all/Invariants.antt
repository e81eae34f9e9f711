use Rattle.std.proofs.Common.{◌≡◌}
use Rattle.dependences.proofs.Readying.{ArePutBack}
use Rattle.dependences.proofs.pairs.PairSums.all.Given as goal

-- the sums of the places so far are in the map
abbrev pub invariant-loop-slot : goal.invariant-loop-slot
invariant-loop-slot l = record {
  same : l.all.ready.items ≡ l.fn.self.ready.items;
  put : ArePutBack l.fn.self.ready.items l.fn.self.sums l.all.sums l.slot;
}
