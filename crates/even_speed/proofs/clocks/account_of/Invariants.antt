use Rattle.std.proofs.Common.{◌≡◌, ◌*◌}
use Rattle.even_speed.specs.Account.{steps_of}
use Rattle.even_speed.specs.Clocks.{account_of, clock_at}
use Rattle.even_speed.proofs.clocks.account_of.Given as goal

abbrev pub invariant-loop-core : goal.invariant-loop-core
invariant-loop-core l = record {
  is : l.sum ≡ account_of l.end (clock_at l.clocks.items) l.core;
  whole : steps_of l.sum ≡ l.core * l.end;
}
