use Rattle.std.proofs.Common.{vec_len, arith}
use Rattle.memory_bytes.proofs.Shadows.{padded_more}
use Rattle.memory_bytes.proofs.shadow.lengthen.Goals as goal

pub returns-clause-same : goal.returns-clause-same
returns-clause-same c = λ size below within.
    (padded_more c.args.cells.now.items c.resize.new.self.items c.args.addr (vec_len c.args.cells.now) size
    c.requires.past (omega (arith, c.args.cells.now.ok)) (rw c.unwrap.ensures at c.resize.ensures.items) below).1
