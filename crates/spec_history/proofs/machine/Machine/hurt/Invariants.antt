use Rattle.spec_history.specs.Effect.{hurt_at}
use Rattle.spec_history.proofs.CodedCores.Changing.{Changing}
use Rattle.spec_history.proofs.machine.Machine.hurt.Given as goal

-- the cores so far have changed
abbrev pub invariant-loop-core : goal.invariant-loop-core
invariant-loop-core l = Changing (hurt_at l.epoch) l.fn.self.image l.core-index l.fn.self.cores.items l.core-items
