use Rattle.std.proofs.Common.{arith}
use Rattle.rv32_exec.proofs.Interpreting.{stops_at_fault}
use Rattle.rv32_exec.proofs.interpreter.stop_at_fault.Goals as goal

pub returns-in-Ok-clause-effect : goal.returns-in-Ok-clause-effect
returns-in-Ok-clause-effect c = λ x faults.
    stops_at_fault c.args.image.now x c.args.pc c.args.done c.args.cause c.instruction_at.result c.fault.result c.code.ensures.limits c.requires (omega arith)
    c.instruction_at.ensures (rw c.in-Ok.is c.fault.ensures) faults

pub returns-in-Err-Illegal-clause-effect : goal.returns-in-Err-Illegal-clause-effect
returns-in-Err-Illegal-clause-effect c = λ x faults.
    stops_at_fault c.args.image.now x c.args.pc c.args.done c.args.cause c.instruction_at.result c.fault-in-Err-Illegal.result c.code.ensures.limits c.requires (omega arith)
    c.instruction_at.ensures (rw (c.in-Err-Illegal.is, c.in-Err-Illegal.field-0-is) c.fault-in-Err-Illegal.ensures) faults

pub returns-in-Err-System-clause-effect : goal.returns-in-Err-System-clause-effect
returns-in-Err-System-clause-effect c = λ x faults.
    stops_at_fault c.args.image.now x c.args.pc c.args.done c.args.cause c.instruction_at.result c.fault-in-Err-System.result c.code.ensures.limits c.requires (omega arith)
    c.instruction_at.ensures (rw (c.in-Err-System.is, c.in-Err-System.field-0-is) c.fault-in-Err-System.ensures) faults
