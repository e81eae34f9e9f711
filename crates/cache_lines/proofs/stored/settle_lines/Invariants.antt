use Rattle.std.proofs.Common.{◌≡◌, ◌++◌, map, take, drop, true}
use Rattle.cache_lines.specs.Changes.{published_line}
use Rattle.cache_lines.proofs.stored.settle_lines.Given as goal

abbrev pub invariant-loop-place : goal.invariant-loop-place
invariant-loop-place l = l.lines ≡ map (published_line true) (take l.place l.initial.lines) ++ drop l.place l.initial.lines
