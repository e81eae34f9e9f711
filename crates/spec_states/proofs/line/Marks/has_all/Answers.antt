use Rattle.spec_states.proofs.MaskLaws.{has_all-and}
use Rattle.spec_states.proofs.line.Marks.has_all.Goals as goal

pub returns : goal.returns
returns c = rw c.span-accessed.ensures (has_all-and c.args.self.bytes c.args.offset c.args.width)
