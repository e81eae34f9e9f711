use Rattle.rv32_exec.proofs.Places.{put_place}
use Rattle.rv32_exec.proofs.registers.Registers.put.Goals as goal

pub returns : goal.returns
returns c = rw (← c.self.view_is, c.from.ensures, c.place.ensures) (put_place c.self.inside.places c.args.rd c.args.value)
