use Rattle.std.proofs.Common.{refl, inr, arith}
use Rattle.dependences.proofs.Words.{noted_word, stored_unmarked}
use Rattle.dependences.proofs.lines.Lines.store.Goals as goal

pub returns-then-other_before-first-clause-stored : goal.returns-then-other_before-first-clause-stored
returns-then-other_before-first-clause-stored c = rw (← c.self.view_is)
    (stored_unmarked c.args._image.now c.requires.limits c.args.addr c.args.width c.args.line c.requires.access.wide c.requires.access.aligned c.requires.line
    _ _ c.args.epoch c.args.first refl (omega (arith, c.other_before.ensures, c.if-other_before-first.true)) c.note.ensures)

pub returns-clause-stored : goal.returns-clause-stored
returns-clause-stored c = rw (← c.self.view_is) (record {
  own = inr c.mark.ensures;
  kept = λ i low written. c.mark.ensures;
  lines = noted_word c.args._image.now c.requires.limits c.args.addr c.args.width c.args.line c.requires.access.wide c.requires.access.aligned c.requires.line
      _ _ c.args.epoch c.note-2.ensures;
})
