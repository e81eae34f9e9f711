use Rattle.std.proofs.Common.{sym, ◌∙◌, arith}
use Rattle.dependences.proofs.WholeWords.{byte_last, stored_here, word_last}
use Rattle.dependences.proofs.last_stores.LastStores.last_of.Goals as goal

pub returns-then-width-eq1 : goal.returns-then-width-eq1
returns-then-width-eq1 c =
    let here = stored_here c.self.inside.words c.self.inside.bytes c.args.self.now c.args.addr _ c.self.invariant c.self.view_is (omega (arith, c.requires.within, c.if-width-eq1.true)) (sym c.in-Bytes.is ∙ c.at.ensures) in
    let by = c.at-then-width-eq1.ensures in
    rw c.if-width-eq1.true
    (byte_last c.args.self.now c.args.addr c.at-then-width-eq1.result (record { writer = by.writer ∙ here.0; step = by.step ∙ here.1; pc = by.pc ∙ here.2 }))

pub returns-in_default : goal.returns-in_default
returns-in_default c =
    word_last c.self.inside.words c.self.inside.bytes c.args.self.now c.args.addr c.args.width _ c.self.invariant c.self.view_is c.requires.wide c.requires.aligned c.requires.within c.at.ensures
