use Rattle.std.proofs.Common.{◌≡◌, ◌++◌, map}
use Rattle.std.specs.List.{flat_map}
use Rattle.std.specs.Map.Iter.{deref}
use Rattle.turn_steps.specs.Kept.{kept_change, row_at}
use Rattle.turn_steps.specs.KeptRow.{nothing}
use Rattle.turn_steps.specs.Passes.{inside}
use Rattle.turn_steps.proofs.kept.ShownKept.push_ends.Given as goal

-- the rows so far
abbrev pub invariant-loop-row : goal.invariant-loop-row
invariant-loop-row l = l.text.items ≡ l.initial.text.items
    ++ flat_map (inside l.count (λ r. kept_change l.core (λ _. nothing) r (row_at l.self r))) (map deref l.yielded)
