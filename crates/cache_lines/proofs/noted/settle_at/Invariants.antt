use Rattle.std.proofs.Common.{true}
use Rattle.cache_lines.specs.Changes.{published_line}
use Rattle.cache_lines.proofs.Walks.{IsUnderWay}
use Rattle.cache_lines.proofs.noted.settle_at.Given as goal

abbrev pub invariant-loop-place : goal.invariant-loop-place
invariant-loop-place l = IsUnderWay (published_line true) l.initial.lines l.lines l.places l.place-index
