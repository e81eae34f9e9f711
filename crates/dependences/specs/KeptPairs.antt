-- What the code keeps of the sums of dependences: those of a few pairs of instructions at hand, and all others in a map.
use Rattle.std.specs.Prelude.{◌≡◌, ℕ, ◌+◌, ◌*◌, ◌/◌, ◌%◌, ◌==◌, ◌&&◌, List, length, Option, Some, None, cond, if◌then◌else◌, slice_get}
use Rattle.std.specs.BTreeMap.{BTreeMap, get}
use Rattle.std.specs.Ordering.{is_eq}
use Rattle.dependences.specs.declared.flow.Dependence.{Dependence}
use Rattle.dependences.specs.declared.pairs.Ready.{Ready}
use Rattle.dependences.specs.declared.pairs.PairSum.{PairSum}
use Rattle.dependences.specs.declared.pairs.PairSums.{PairSums}
use Rattle.dependences.specs.Pairs.{by_pcs, pair_sum, sum_with}

-- where a pair is at hand
abbrev pub slot : ℕ → ℕ → ℕ
slot store load = (load + 2 * store) / 4 % 256

-- the sum of this pair, where it is the one at hand
abbrev pub at_hand : Option Ready → ℕ → ℕ → Option PairSum
at_hand (Some ready) store load = if (ready.store == store) && (ready.load == load) then Some ready.sum else None
at_hand None store load = None

-- the sum of a pair, where it is at hand in its place
abbrev pub ready_sum : List Ready → ℕ → ℕ → Option PairSum
ready_sum ready store load = at_hand (slice_get ready (slot store load)) store load

-- the first, and where there is none the second
abbrev pub sum_or : Option PairSum → Option PairSum → Option PairSum
sum_or (Some sum) other = Some sum
sum_or None other = other

-- the sum of a pair
abbrev pub kept_sum : List Ready → BTreeMap (ℕ × ℕ) PairSum → ℕ → ℕ → Option PairSum
kept_sum ready sums store load = sum_or (ready_sum ready store load) (get by_pcs sums (store, load))

-- the sum of this one's pair has it now, and the others stay
abbrev pub IsAdded : PairSums → PairSums → Dependence → Type 0
IsAdded old new x = (store load : ℕ) → kept_sum new.ready.items new.sums store load
    ≡ cond (is_eq (by_pcs (x.store_pc, x.load_pc) (store, load))) (sum_with (kept_sum old.ready.items old.sums x.store_pc x.load_pc) x) (kept_sum old.ready.items old.sums store load)

-- the sums are those of these dependences
pub record ArePairSums (s : PairSums) (list : List Dependence) : Type 0 where
  pub long : length s.ready.items ≡ 256
  pub each : (store load : ℕ) → kept_sum s.ready.items s.sums store load ≡ pair_sum store load list
