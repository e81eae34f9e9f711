use Rattle.std.proofs.Common.{◌∙◌, arith}
use Rattle.std.proofs.lemmas.List.{get_or-take, length-take-le}
use Rattle.rv32_exec.proofs.registers.Registers.look.Goals as goal

pub returns : goal.returns
returns c = rw (← c.self.view_is) (record {
  register_count = length-take-le 32 c.self.inside.places (omega (arith, c.self.invariant.0));
  x0 = get_or-take 32 c.self.inside.places 0 0 (omega arith) ∙ c.self.invariant.1;
})
