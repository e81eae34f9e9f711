use Rattle.std.proofs.Common.{◌≡◌, ◌<◌, ℕ, length, slice_index}
use Rattle.spec_history.specs.Conflict.{line_count, line_number}
use Rattle.conflict_findings.proofs.history.lines_in_order.Given as goal

-- those of the bytes so far; in memory they are such
abbrev pub invariant-loop-addr : goal.invariant-loop-addr
invariant-loop-addr l = record {
  long : length l.lines.items ≡ l.addr-index;
  each : (k : ℕ) → k < l.addr-index → slice_index l.lines.items k ≡ line_number l.image (slice_index l.read k);
  within : (k : ℕ) → k < l.addr-index → slice_index l.read k < l.image.size → slice_index l.lines.items k < line_count l.image;
}
