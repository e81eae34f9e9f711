use Rattle.std.proofs.Common.{◌≡◌, length}
use Rattle.rv32_exec.specs.declared.sequential.End.TheVariants.{Done}
use Rattle.rv32_exec.specs.Sequential.{first_epochs}
use Rattle.dependences.proofs.alone.run_between.Given as goal

-- the epochs so far are done
abbrev pub invariant-loop-epoch : goal.invariant-loop-epoch
invariant-loop-epoch l = record {
  size : length l.memory ≡ l.image.size;
  done : first_epochs l.image l.epoch ≡ record { end = Done l.epoch; bytes = l.memory };
}
