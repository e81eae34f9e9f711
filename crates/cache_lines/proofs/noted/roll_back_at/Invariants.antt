use Rattle.cache_lines.specs.Changes.{rolled_back_line}
use Rattle.cache_lines.proofs.Walks.{IsUnderWay}
use Rattle.cache_lines.proofs.noted.roll_back_at.Given as goal

abbrev pub invariant-loop-place : goal.invariant-loop-place
invariant-loop-place l = IsUnderWay rolled_back_line l.initial.lines l.lines l.places l.place-index
