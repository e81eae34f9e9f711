use Rattle.std.proofs.Common.{arith}
use Rattle.dependences.proofs.WholeWords.{kept_some, some_of_whole}
use Rattle.dependences.proofs.flow.Flow.note_others.Goals as goal

pub returns-then-is_before-clause-kept : goal.returns-then-is_before-clause-kept
returns-then-is_before-clause-kept g c room =
    let last = c.in-Whole.ensures in
    kept_some g.F.Found.keeps c.args.self.now c.depend.new.self c.args.pc c.args.done c.args.addr c.args.width _ c.requires.room c.depend.ensures.epoch c.depend.ensures.stores
    (some_of_whole c.args.self.now.stores c.args.self.now.epoch c.args.addr c.args.width c.in-Whole.by last (c.is_before.ensures.is c.if-is_before.true))
    (last.1 c.args.addr (omega arith) (omega (arith, last.0)))
    c.depend.ensures.nearest (c.depend.ensures.found room) c.depend.ensures.later
