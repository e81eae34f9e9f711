use Rattle.std.proofs.Common.{◌*◌, ap, ◌∙◌, arith}
use Rattle.violations.specs.Plain.{store_view}
use Rattle.turn_steps.proofs.Reading.{masks_all, masks_more, masks_none}
use Rattle.turn_steps.proofs.kept_row.own_mask.Goals as goal

pub loop-i-init : goal.loop-i-init
loop-i-init c = masks_none ((store_view c.args.store.now).own c.args.core) (16 * c.args.row)

pub loop-i-preserved : goal.loop-i-preserved
loop-i-preserved c = masks_more ((store_view c.args.store.now).own c.args.core) (16 * c.args.row) c.loop-i.i c.loop-i.mask c.is_some.result c.with_bit-mask.result
    c.loop-i.invariant (c.is_some.ensures ∙ c.own_byte.ensures.owned ∙ ap ((store_view c.args.store.now).own c.args.core) c.address.ensures) c.with_bit-mask.ensures.more c.with_bit-mask.ensures.below

pub returns : goal.returns
returns c = masks_all ((store_view c.args.store.now).own c.args.core) (16 * c.args.row) c.loop-i.i c.loop-i.mask c.loop-i.invariant (omega arith)
