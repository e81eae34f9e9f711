use Rattle.std.proofs.Common.{◌≡◌, ◌++◌, take}
use Rattle.std.specs.List.{flat_map}
use Rattle.trace_text.specs.Laws.{AreEntries}
use Rattle.trace_text.specs.Printing.{entry_line, head_line}
use Rattle.trace_text.proofs.print.trace_lines.Given as goal

-- the head and the lines so far are written
abbrev pub invariant-loop-entry : goal.invariant-loop-entry
invariant-loop-entry l = record {
  text : l.text.items ≡ head_line l.cores ++ flat_map entry_line (take l.entry-index l.entries);
  numbers : AreEntries (take l.entry-index l.entries);
}
