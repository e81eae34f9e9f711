use Rattle.std.proofs.Common.{subst}
use Rattle.homefree.specs.InStep.{InStep}
use Rattle.homefree.proofs.Books.Turns.{in_step}
use Rattle.homefree.proofs.book.Book.look.Goals as goal

pub returns : goal.returns
returns g c =
    let i = c.self.inside.inside.value in
    subst (InStep g.S.EpochStore.view) c.self.view_is (in_step g.S.EpochStore.view i.parts.register i.parts.store i.room i.stopped c.self.invariant.0)
