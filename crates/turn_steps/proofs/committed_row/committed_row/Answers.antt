use Rattle.std.proofs.Common.{◌*◌, arith, ap, refl, sym, ◌∙◌}
use Rattle.turn_steps.proofs.Reading.{fills_all, fills_more, no_bytes}
use Rattle.turn_steps.proofs.committed_row.committed_row.Goals as goal

pub loop-i-init : goal.loop-i-init
loop-i-init g c = record { so = sym (no_bytes (g.S.EpochStore.view c.args.store.now).committed (16 * c.args.row)); long = refl }

pub loop-i-preserved : goal.loop-i-preserved
loop-i-preserved g c = fills_more (g.S.EpochStore.view c.args.store.now).committed (16 * c.args.row) c.loop-i.i c.committed_byte.result c.loop-i.bytes c.loop-i.invariant (omega arith) (c.committed_byte.ensures ∙ ap (g.S.EpochStore.view c.args.store.now).committed c.address.ensures)

pub returns : goal.returns
returns g c = fills_all (g.S.EpochStore.view c.args.store.now).committed (16 * c.args.row) c.loop-i.i c.loop-i.bytes c.loop-i.invariant (omega arith)
