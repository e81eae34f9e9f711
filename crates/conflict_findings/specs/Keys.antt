-- Violations that are told apart by a number, and what those of each number cost.
use Rattle.std.specs.Prelude.{◌≡◌, ℕ, zero, suc, ◌+◌, List, Option, Some, None, option_map, unwrap_or}
use Rattle.std.specs.BTreeMap.{BTreeMap, IsOrdered, get}
use Rattle.std.specs.Ordering.{nat_cmp}
use Rattle.conflict_findings.specs.declared.keys.Key.{Key}
use Rattle.conflict_findings.specs.declared.keys.Key.TheVariants.{Store, Load, Line, Epoch}
use Rattle.conflict_findings.specs.declared.part.Part.{Part}
use Rattle.conflict_findings.specs.declared.part.Part.TheVariants.{StoredAt, LoadedAt, OfLine, OfEpoch}
use Rattle.conflict_findings.specs.declared.rollback.Pair.{Pair}
use Rattle.conflict_findings.specs.declared.rollback.Rollback.{Rollback}
use Rattle.conflict_findings.specs.declared.sum.Sum.{Sum}
use Rattle.conflict_findings.specs.Sums.{count_in, lost_in}

-- the number that a violation has, if it has one
abbrev pub key_of : Key → Rollback → Option ℕ
key_of Store r = option_map (λ (p : Pair). p.store) r.pair
key_of Load r = option_map (λ (p : Pair). p.load) r.pair
key_of Line r = r.line
key_of Epoch r = Some r.epoch

-- the violations that have a number
abbrev pub part_at : Key → ℕ → Part
part_at Store at = StoredAt at
part_at Load at = LoadedAt at
part_at Line at = OfLine at
part_at Epoch at = OfEpoch at

-- what so many violations cost, if there are any
abbrev pub some_sum : ℕ → ℕ → Option Sum
some_sum zero lost = None
some_sum (suc n) lost = Some (record { count = suc n; lost = lost })

-- what the violations of a number cost, if there are any
abbrev pub sum_at : Key → List Rollback → ℕ → Option Sum
sum_at key rollbacks at = some_sum (count_in (part_at key at) rollbacks) (lost_in (part_at key at) rollbacks)

-- a sum so far, and one with a violation more
abbrev pub sum_or : Option Sum → Sum
sum_or sum = unwrap_or sum (record { count = 0; lost = 0 })

abbrev pub more : Sum → ℕ → Sum
more sum lost = record { count = sum.count + 1; lost = sum.lost + lost }

-- for each number, what the violations that have it cost
abbrev pub AreSumsBy : Key → List Rollback → BTreeMap ℕ Sum → Type 0
AreSumsBy key rollbacks sums = (at : ℕ) → get nat_cmp sums at ≡ sum_at key rollbacks at

-- and the numbers ascend
pub record AreSums (key : Key) (rollbacks : List Rollback) (sums : BTreeMap ℕ Sum) : Type 0 where
  pub each : AreSumsBy key rollbacks sums
  pub ascending : IsOrdered nat_cmp sums
