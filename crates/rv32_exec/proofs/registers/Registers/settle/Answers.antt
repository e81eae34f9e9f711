use Rattle.std.proofs.Common.{arith}
use Rattle.std.proofs.lemmas.List.{take-set-le}
use Rattle.rv32_exec.proofs.registers.Registers.settle.Goals as goal

pub returns-clause-x : goal.returns-clause-x
returns-clause-x c = rw (← c.self.view_is) (take-set-le 32 c.self.inside.places 32 0 (omega arith))
