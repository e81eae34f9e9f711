use Rattle.cache_lines.proofs.ListLaws.{IsUnlisting}
use Rattle.cache_lines.proofs.noted.unlist.Given as goal

abbrev pub invariant-loop-place : goal.invariant-loop-place
invariant-loop-place l = IsUnlisting l.initial.listed l.listed l.place-items l.place-index
