use Rattle.std.proofs.Common.{List, ℕ, drop}
use Rattle.gain.specs.Limits.{AddLimits}
use Rattle.gain.proofs.limit_lines.push_each.Given as goal

-- what the rest adds to it, all add to the text before
abbrev pub invariant-loop-cores : goal.invariant-loop-cores
invariant-loop-cores l = (new : List ℕ) → AddLimits l.image (drop l.cores-index l.counts) l.text.items new → AddLimits l.image l.counts l.initial.text.items new
