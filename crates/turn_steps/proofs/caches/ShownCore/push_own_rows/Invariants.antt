use Rattle.std.proofs.Common.{ℕ, ◌<◌}
use Rattle.std.specs.List.{slice_index_or}
use Rattle.turn_steps.specs.Caches.{HasOwnRows, HasRowsOf, no_line}
use Rattle.turn_steps.proofs.caches.ShownCore.push_own_rows.Given as goal

-- the rows of the ways so far
abbrev pub invariant-loop-line : goal.invariant-loop-line
invariant-loop-line l = record {
  kept : HasRowsOf l.initial.rows l.rows;
  own : (place : ℕ) → place < l.line-index → HasOwnRows l.layout.machine l.layout.size (slice_index_or l.self.ways place no_line) l.rows;
}
