use Rattle.dependences.proofs.WholeWords.{put_beside}
use Rattle.dependences.proofs.byte_stores.ByteStores.put.Goals as goal

pub returns : goal.returns
returns c = rw (← c.self.view_is)
    (put_beside c.self.inside.stores.items c.reach.new.stores.items c.self.inside.size c.args.byte c.args.by c.self.invariant.within c.reach.ensures.within c.reach.ensures.same c.reach.ensures.there)
