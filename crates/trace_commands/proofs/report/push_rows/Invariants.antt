use Rattle.std.proofs.Common.{◌≡◌, ◌++◌}
use Rattle.trace_commands.specs.Report.{row_lines}
use Rattle.trace_commands.proofs.report.push_rows.Given as goal

-- the rows so far are written
abbrev pub invariant-loop-row : goal.invariant-loop-row
invariant-loop-row l = l.text.items ≡ l.initial.text.items ++ row_lines l.loaded l.bytes l.row
