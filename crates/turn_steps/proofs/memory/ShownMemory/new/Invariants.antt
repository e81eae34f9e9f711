use Rattle.std.proofs.Common.{◌≡◌, ◌<◌, ℕ, length, slice_index}
use Rattle.turn_steps.specs.Memory.{row_of, shown_row}
use Rattle.turn_steps.proofs.memory.ShownMemory.new.Given as goal

-- the rows so far
abbrev pub invariant-loop-row : goal.invariant-loop-row
invariant-loop-row l = record {
  long : length l.rows.items ≡ l.row;
  each : (r : ℕ) → r < l.row → shown_row l.rows.items r ≡ row_of (λ a. slice_index l.image.bytes a) r;
}
