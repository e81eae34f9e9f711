use Rattle.std.proofs.Common.{◌≡◌, ◌++◌, ℕ, ◌<◌, List, length, map}
use Rattle.std.specs.List.{flat_map}
use Rattle.std.specs.Map.Iter.{deref}
use Rattle.turn_steps.specs.Memory.{at_change, row_of, shown_row}
use Rattle.turn_steps.specs.Passes.{inside}
use Rattle.turn_steps.proofs.Passes.{passed}
use Rattle.turn_steps.proofs.memory.ShownMemory.push_changes.Given as goal

-- the rows so far
abbrev pub invariant-loop-row : goal.invariant-loop-row
invariant-loop-row g l =
    let now : ℕ → List ℕ = row_of (g.S.EpochStore.view l.store).committed in
    record {
      long : length l.self ≡ length l.initial.self;
      text : l.text.items ≡ l.initial.text.items
          ++ flat_map (inside (length l.initial.self) (λ r. at_change (g.S.EpochStore.view l.store).committed r (shown_row l.initial.self r))) (map deref l.yielded);
      shown : (r : ℕ) → r < length l.initial.self → shown_row l.self r ≡ passed (map deref l.yielded) now (shown_row l.initial.self) r;
    }
