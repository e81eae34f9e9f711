use Rattle.std.proofs.Common.{◌≡◌, take}
use Rattle.replay_command.proofs.traced.parting.Given as goal

-- they are the same so far
abbrev pub invariant-loop-place : goal.invariant-loop-place
invariant-loop-place l = take l.place l.made ≡ take l.place l.given
