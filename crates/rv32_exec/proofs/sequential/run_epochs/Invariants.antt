use Rattle.std.proofs.Common.{◌≡◌}
use Rattle.rv32_exec.specs.declared.sequential.End.TheVariants.{Done}
use Rattle.rv32_exec.specs.Sequential.{first_epochs}
use Rattle.rv32_exec.proofs.sequential.run_epochs.Given as goal

-- the epochs so far are done, and have left this memory
abbrev pub invariant-loop-epoch : goal.invariant-loop-epoch
invariant-loop-epoch l = first_epochs l.image l.epoch ≡ record { end = Done l.epoch; bytes = l.bytes }
