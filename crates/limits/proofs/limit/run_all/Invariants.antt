use Rattle.std.proofs.Common.{◌≡◌}
use Rattle.rv32_exec.specs.declared.sequential.End.TheVariants.{Done}
use Rattle.rv32_exec.specs.Sequential.{first_epochs}
use Rattle.limits.specs.Kept.{AreKept}
use Rattle.limits.proofs.limit.run_all.Given as goal

-- the epochs so far are done
abbrev pub invariant-loop-epoch : goal.invariant-loop-epoch
invariant-loop-epoch l = record {
  done : first_epochs l.image l.epoch ≡ record { end = Done l.epoch; bytes = l.memory };
  kept : AreKept l.image l.cores l.epoch l.times;
  waits : l.times.waits ≡ l.fn.times.waits;
}
