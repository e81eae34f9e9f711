use Rattle.std.proofs.Common.{◌≡◌, ℕ, ◌<◌, false}
use Rattle.cache_lines.specs.Lines.{line_in, is_copy_of}
use Rattle.cache_lines.proofs.cache.Cache.find.Given as goal

abbrev pub invariant-loop-way : goal.invariant-loop-way
invariant-loop-way l = (v : ℕ) → v < l.way → is_copy_of (line_in l.self l.addr v) l.addr ≡ false
