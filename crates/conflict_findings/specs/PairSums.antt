-- What the violations of a pair of instructions cost, and what else they have: how many were stale, in vain, and came true later, how far apart their epochs stood, and in which bytes they met.
use Rattle.std.specs.Prelude.{◌+◌, List, Option, Some, None, count_by, filter, max, min, option_map}
use Rattle.std.specs.List.{fold}
use Rattle.conflicts.specs.declared.explanation.ByteRange.{ByteRange}
use Rattle.spec_history.specs.declared.kind.Kind.TheVariants.{TrueSharing, SilentStore, FalseSharing, FullBuffer}
use Rattle.conflict_findings.specs.declared.kinds.CountsByKind.{CountsByKind}
use Rattle.conflict_findings.specs.declared.pair_sums.Bounds.{Bounds}
use Rattle.conflict_findings.specs.declared.pair_sums.Fates.{Fates}
use Rattle.conflict_findings.specs.declared.pair_sums.Measure.{Measure}
use Rattle.conflict_findings.specs.declared.pair_sums.Measure.TheVariants.{Distance, Bytes}
use Rattle.conflict_findings.specs.declared.pair_sums.PairSum.{PairSum}
use Rattle.conflict_findings.specs.declared.part.Part.TheVariants.{OfKind, OfPair}
use Rattle.conflict_findings.specs.declared.rollback.Pair.{Pair}
use Rattle.conflict_findings.specs.declared.rollback.Rollback.{Rollback}
use Rattle.conflict_findings.specs.Parts.{belongs}
use Rattle.conflict_findings.specs.Sums.{count_in, sum_in}

-- how many of some violations were stale, in vain, and came true later
abbrev pub fates_in : List Rollback → Fates
fates_in rollbacks = record {
  stale = count_by (λ (r : Rollback). r.stale) rollbacks;
  vain = count_by (λ (r : Rollback). r.vain) rollbacks;
  came_true = count_by (λ (r : Rollback). r.came_true) rollbacks;
}

-- the bounds of what lies within either
abbrev pub joined : Option Bounds → Option Bounds → Option Bounds
joined None other = other
joined (Some one) None = Some one
joined (Some one) (Some other) = Some (record { least = min one.least other.least; greatest = max one.greatest other.greatest })

-- the distance of a violation; and the address of the first of its bytes, with that after the last
abbrev pub measured : Measure → Rollback → Option Bounds
measured Distance r = Some (record { least = r.distance; greatest = r.distance })
measured Bytes r = option_map (λ (b : ByteRange). record { least = b.first; greatest = b.first + b.length }) r.bytes

-- the bounds of those of some violations
abbrev pub bounds_in : Measure → List Rollback → Option Bounds
bounds_in measure rollbacks = fold (λ bounds (r : Rollback). joined bounds (measured measure r)) None rollbacks

-- how many are of each kind
abbrev pub kinds_in : List Rollback → CountsByKind
kinds_in rollbacks = record {
  true_sharing = count_in (OfKind TrueSharing) rollbacks;
  silent_store = count_in (OfKind SilentStore) rollbacks;
  false_sharing = count_in (OfKind FalseSharing) rollbacks;
  full_buffer = count_in (OfKind FullBuffer) rollbacks;
}

-- the violations of a pair
abbrev pub of_pair : Pair → List Rollback → List Rollback
of_pair pair rollbacks = filter (belongs (OfPair pair)) rollbacks

abbrev pub pair_sum : List Rollback → Pair → PairSum
pair_sum rollbacks pair = record {
  pair = pair;
  sum = sum_in (OfPair pair) rollbacks;
  counts = kinds_in (of_pair pair rollbacks);
  fates = fates_in (of_pair pair rollbacks);
  distance = bounds_in Distance (of_pair pair rollbacks);
  bytes = bounds_in Bytes (of_pair pair rollbacks);
}
