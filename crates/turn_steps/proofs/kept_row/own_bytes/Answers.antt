use Rattle.std.proofs.Common.{◌*◌, arith, ap, refl, sym, ◌∙◌}
use Rattle.violations.specs.Plain.{store_view}
use Rattle.turn_steps.specs.Rows.{own_byte}
use Rattle.turn_steps.proofs.Reading.{fills_all, fills_more, no_bytes}
use Rattle.turn_steps.proofs.kept_row.own_bytes.Goals as goal

pub loop-i-init : goal.loop-i-init
loop-i-init c = record { so = sym (no_bytes (own_byte (store_view c.args.store.now) c.args.core) (16 * c.args.row)); long = refl }

pub loop-i-preserved : goal.loop-i-preserved
loop-i-preserved c = fills_more (own_byte (store_view c.args.store.now) c.args.core) (16 * c.args.row) c.loop-i.i c.own_or_zero.result c.loop-i.bytes c.loop-i.invariant (omega arith) (c.own_or_zero.ensures ∙ ap (own_byte (store_view c.args.store.now) c.args.core) c.address.ensures)

pub returns : goal.returns
returns c = fills_all (own_byte (store_view c.args.store.now) c.args.core) (16 * c.args.row) c.loop-i.i c.loop-i.bytes c.loop-i.invariant (omega arith)
