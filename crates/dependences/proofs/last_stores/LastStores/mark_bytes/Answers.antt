use Rattle.dependences.proofs.WholeWords.{all_more}
use Rattle.dependences.proofs.last_stores.LastStores.mark_bytes.Goals as goal

pub loop-i-preserved : goal.loop-i-preserved
loop-i-preserved c = all_more c.args.self.now c.loop-i.self c.mark_byte.new.self c.args.addr c.loop-i.i _ _ _ c.loop-i.invariant c.mark_byte.ensures
