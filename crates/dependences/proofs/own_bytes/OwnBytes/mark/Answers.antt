use Rattle.dependences.proofs.Owning.{are_owned, in_block}
use Rattle.dependences.proofs.own_bytes.OwnBytes.mark.Goals as goal

pub bits_of-requires : goal.bits_of-requires
bits_of-requires c = in_block c.args.addr c.args.width c.requires.wide c.requires.aligned

pub returns : goal.returns
returns c = rw (← c.self.view_is)
    (are_owned _ _ c.args.epoch c.args.addr c.args.width c.requires.wide c.requires.aligned (rw (← c.self.view_is) at c.requires.by) (rw (← c.self.view_is) at c.requires.bits)
    (rw c.note.ensures.note at c.put.ensures) (rw (c.before-before.ensures, c.bits_of.ensures, ← c.self.view_is) at c.put-2.ensures))
