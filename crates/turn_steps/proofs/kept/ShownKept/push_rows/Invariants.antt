use Rattle.std.proofs.Common.{◌≡◌, ◌++◌, ℕ, ◌<◌, map}
use Rattle.std.specs.List.{flat_map}
use Rattle.std.specs.Map.Iter.{deref}
use Rattle.violations.specs.Plain.{store_view}
use Rattle.turn_steps.specs.Kept.{kept_change, row_at}
use Rattle.turn_steps.specs.KeptRow.{kept_of}
use Rattle.turn_steps.specs.Passes.{inside}
use Rattle.turn_steps.proofs.Passes.{passed}
use Rattle.turn_steps.proofs.kept.ShownKept.push_rows.Given as goal

-- the rows so far
abbrev pub invariant-loop-row : goal.invariant-loop-row
invariant-loop-row l = record {
  text : l.text.items ≡ l.initial.text.items
      ++ flat_map (inside l.count (λ r. kept_change l.core (kept_of (store_view l.store) l.core) r (row_at l.initial.self r))) (map deref l.yielded);
  shown : (r : ℕ) → r < l.count → row_at l.self r ≡ passed (map deref l.yielded) (kept_of (store_view l.store) l.core) (row_at l.initial.self) r;
}
