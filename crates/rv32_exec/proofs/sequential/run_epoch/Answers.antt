use Rattle.std.proofs.Common.{◌≡◌, ◌≤◌, refl, ap, sym, ◌∙◌, arith}
use Rattle.rv32_exec.specs.declared.stop.Stop.TheVariants.{Ended, Fault}
use Rattle.rv32_exec.specs.Execute.{Stops}
use Rattle.rv32_exec.specs.Interpreter.{rest}
use Rattle.rv32_exec.specs.Sequential.{epoch_outcome, result_of}
use Rattle.rv32_exec.proofs.Runs.{outcome-start, outcome-stops}
use Rattle.rv32_exec.proofs.sequential.run_epoch.Goals as goal

pub returns-in-Ended : goal.returns-in-Ended
returns-in-Ended c =
    let is = c.run.ensures.stop ∙ ap Stops c.in-Ended.is in
    let begun : rest c.args.image.now c.start-hart.result c.args.bytes.now ≡ epoch_outcome c.args.image.now c.args.epoch c.args.bytes.now =
    rw c.start-hart.ensures (outcome-start c.args.image.now c.args.epoch c.args.bytes.now) in
    let within : c.run.new.self.done ≤ c.args.image.now.limit = c.run.ensures.leads.within (rw c.start-hart.ensures (omega arith)) in
    let outcome = outcome-stops c.args.image.now c.run.new.self Ended c.run.new.bytes _ _ is within refl (c.run.ensures.leads.outcome ∙ begun) in
    sym (ap (result_of c.args.image.now c.args.epoch) outcome) ∙ sym (ap (λ e. record { end = e; bytes = c.run.new.bytes }) c.end_of.ensures)

pub returns-in-Fault : goal.returns-in-Fault
returns-in-Fault c =
    let is = c.run.ensures.stop ∙ ap Stops c.in-Fault.is in
    let begun : rest c.args.image.now c.start-hart.result c.args.bytes.now ≡ epoch_outcome c.args.image.now c.args.epoch c.args.bytes.now =
    rw c.start-hart.ensures (outcome-start c.args.image.now c.args.epoch c.args.bytes.now) in
    let within : c.run.new.self.done ≤ c.args.image.now.limit = c.run.ensures.leads.within (rw c.start-hart.ensures (omega arith)) in
    let outcome = outcome-stops c.args.image.now c.run.new.self (Fault c.in-Fault.cause c.in-Fault.pc) c.run.new.bytes _ _ is within refl (c.run.ensures.leads.outcome ∙ begun) in
    sym (ap (result_of c.args.image.now c.args.epoch) outcome)
