use Rattle.std.proofs.Common.{◌≡◌, ◌-◌, ◌++◌, replicate}
use Rattle.spec_bus.proofs.memory.add_lines.Given as goal

abbrev pub invariant-loop : goal.invariant-loop
invariant-loop l = l.memory.items ≡ l.image.bytes ++ replicate (l.counter - l.size) 0
