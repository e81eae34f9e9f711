use Rattle.std.proofs.Common.{sym, ◌∙◌}
use Rattle.dependences.proofs.Readying.{added}
use Rattle.dependences.proofs.pairs.PairSums.make_ready.Goals as goal

pub returns-clause-added : goal.returns-clause-added
returns-clause-added c store load =
    let x = c.args.one in
    let ready = c.args.self.now.ready.items in
    rw (c.in_ok-put_back.ensures.ready, c.slot_of-slot.ensures.slot)
    (added ready c.args.self.now.sums c.put_back.new.self.sums x c.in_ok-sum.sum c.requires.long
    (rw c.requires.none c.in_ok-sum.ensures)
    (λ s l other is. c.in_ok-put_back.ensures.here s l (is ∙ sym c.slot_of-slot.ensures.slot))
    (λ s l apart. c.in_ok-put_back.ensures.others s l (λ is. apart (is ∙ c.slot_of-slot.ensures.slot))) store load)
