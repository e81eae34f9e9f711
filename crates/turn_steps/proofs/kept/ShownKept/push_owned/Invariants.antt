use Rattle.std.proofs.Common.{◌≡◌, ◌&&◌, ◌||◌, ◌==◌, ℕ, map, not}
use Rattle.std.specs.BTreeSet.{contains}
use Rattle.std.specs.Map.Iter.{deref}
use Rattle.std.specs.Ordering.{nat_cmp}
use Rattle.turn_steps.specs.Kept.{row_at}
use Rattle.turn_steps.proofs.Passes.{among}
use Rattle.turn_steps.proofs.kept.ShownKept.push_owned.Given as goal

-- of the rows so far those with own bytes
abbrev pub invariant-loop-row : goal.invariant-loop-row
invariant-loop-row l = (r : ℕ) → contains nat_cmp l.rows r
    ≡ (contains nat_cmp l.initial.rows r || (among (map deref l.yielded) r && not ((row_at l.self r).own == 0)))
