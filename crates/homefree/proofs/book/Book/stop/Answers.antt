use Rattle.std.proofs.Common.{Some}
use Rattle.homefree.specs.BookInside.{book_of}
use Rattle.homefree.proofs.Books.Turns.{book_stopped}
use Rattle.homefree.proofs.Retracing.Books.{retraced_stopped}
use Rattle.homefree.proofs.book.Book.stop.Goals as goal

pub invariant_of-self : goal.invariant_of-self
invariant_of-self g c =
    let i = c.self.inside.inside.value in
    let r = i.parts.register in
    let s = i.parts.store in
    rw c.deref_mut.ensures.value (
      book_stopped g.S.EpochStore.view r s i.room i.stopped c.args.cause c.self.invariant.0 (λ is. rw (← c.self.view_is) at c.requires is),
      retraced_stopped g.S.EpochStore.starts g.S.EpochStore.makes g.S.EpochStore.view g.S.EpochStore.waits (book_of r s i.room i.stopped) (Some c.args.cause) c.self.invariant.1,
    )
