use Rattle.std.proofs.Common.{arith, ◌∙◌, slice_index, refl}
use Rattle.spec_bus.proofs.Bytes.{zeros, line_start, line_more}
use Rattle.spec_bus.proofs.memory.memory_line.Goals as goal

pub loop-x-init : goal.loop-x-init
loop-x-init c = record { each = λ y. zeros y ∙ line_start (slice_index c.args.memory.now) c.args.addr y; size = refl }

pub loop-x-preserved : goal.loop-x-preserved
loop-x-preserved c =
    let size = c.loop-x.invariant.size in
    line_more (slice_index c.args.memory.now) c.loop-x.line c.args.addr c.loop-x.x (omega arith) c.loop-x.invariant
