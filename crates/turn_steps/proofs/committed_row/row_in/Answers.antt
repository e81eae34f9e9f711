use Rattle.std.proofs.Common.{◌+◌, slice_index, arith, refl, sym}
use Rattle.turn_steps.proofs.Reading.{fills_all, fills_more, no_bytes}
use Rattle.turn_steps.proofs.committed_row.row_in.Goals as goal

pub loop-i-init : goal.loop-i-init
loop-i-init c = record { so = sym (no_bytes (λ a. slice_index c.args.bytes.now a) c.args.addr); long = refl }

pub loop-i-preserved : goal.loop-i-preserved
loop-i-preserved c = fills_more (λ a. slice_index c.args.bytes.now a) c.args.addr c.loop-i.i (slice_index c.args.bytes.now (c.args.addr + c.loop-i.i)) c.loop-i.row c.loop-i.invariant (omega arith) refl

pub returns : goal.returns
returns c = fills_all (λ a. slice_index c.args.bytes.now a) c.args.addr c.loop-i.i c.loop-i.row c.loop-i.invariant (omega arith)
