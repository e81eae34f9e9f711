use Rattle.std.proofs.Common.{◌*◌}
use Rattle.dependences.proofs.WholeWords.{all_more}
use Rattle.dependences.proofs.last_stores.spread_one.Goals as goal

pub loop-i-preserved : goal.loop-i-preserved
loop-i-preserved c = all_more c.args.bytes.now c.loop-i.bytes c.put-in-loop-i.new.self (4 * c.args.word) c.loop-i.i _ _ _ c.loop-i.invariant c.put-in-loop-i.ensures
