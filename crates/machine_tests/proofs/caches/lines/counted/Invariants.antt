use Rattle.std.proofs.Common.{◌≡◌, ◌≤◌, ℕ, length, slice_index}
use Rattle.machine_tests.proofs.caches.lines.counted.Given as goal

abbrev pub invariant-loop-x : goal.invariant-loop-x
invariant-loop-x l = (length l.cells ≡ 64) × ((x : ℕ) → l.length ≤ x → slice_index l.cells x ≡ 0)
