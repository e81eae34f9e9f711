use Rattle.std.proofs.Common.{sym}
use Rattle.std.proofs.lemmas.List.{get_or-take}
use Rattle.rv32_exec.proofs.registers.Registers.get.Goals as goal

pub returns : goal.returns
returns c =
    rw (← c.self.view_is, c.from.ensures, c.number.ensures.value)
    (sym (get_or-take 32 c.self.inside.places c.args.register 0 (rw c.number.ensures.value at c.number.ensures.below)))
