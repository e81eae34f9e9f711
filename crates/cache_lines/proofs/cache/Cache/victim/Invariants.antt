use Rattle.cache_lines.specs.Lines.{line_in}
use Rattle.cache_lines.proofs.Victims.{IsPassed}
use Rattle.cache_lines.proofs.cache.Cache.victim.Given as goal

abbrev pub invariant-loop-way : goal.invariant-loop-way
invariant-loop-way l = IsPassed (line_in l.self l.addr) l.way l.unmarked
