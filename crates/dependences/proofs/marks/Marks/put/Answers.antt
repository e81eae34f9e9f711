use Rattle.std.proofs.Common.{arith}
use Rattle.dependences.proofs.Marking.{filled_put}
use Rattle.dependences.proofs.marks.Marks.put.Goals as goal

pub returns : goal.returns
returns c = let there = c.reach.ensures.there in rw (← c.self.view_is)
    (filled_put c.self.inside.numbers.items c.reach.new.numbers.items c.self.inside.size c.args.place c.args.number c.self.invariant.within c.reach.ensures.within (omega (arith, there)) c.reach.ensures.same)
