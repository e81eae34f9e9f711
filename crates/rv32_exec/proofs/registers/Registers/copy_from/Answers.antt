use Rattle.std.proofs.Common.{length, ◌≡◌, ◌++◌, ◌∙◌, arith}
use Rattle.std.proofs.lemmas.Grind.{elements}
use Rattle.std.proofs.lemmas.List.{take-set-le, take_at}
use Rattle.rv32_exec.proofs.registers.Registers.copy_from.Goals as goal

pub returns-clause-x : goal.returns-clause-x
returns-clause-x c =
    let long : length c.x.result.now ≡ 32 = rw c.x.ensures c.look.ensures.register_count in
    take-set-le 32 (c.x.result.now ++ _) 32 0 (omega arith)
    ∙ (take_at c.x.result.now _ 32 long ∙ c.x.ensures)

pub invariant_of-self : goal.invariant_of-self
invariant_of-self c =
    let long : length c.x.result.now ≡ 32 = rw c.x.ensures c.look.ensures.register_count in
    (grind (arith, elements), grind (arith, elements))
