use Rattle.limits.specs.Kept.{IsReady}
use Rattle.limits.proofs.times.Times.ready.Given as goal

-- so of the bytes so far
abbrev pub invariant-loop-byte : goal.invariant-loop-byte
invariant-loop-byte l = IsReady l.self l.epoch l.addr l.byte l.ready
