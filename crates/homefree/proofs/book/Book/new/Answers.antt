use Rattle.std.proofs.Common.{refl}
use Rattle.homefree.proofs.Retracing.Books.{first_whole}
use Rattle.homefree.proofs.book.Book.new.Goals as goal

pub invariant_of-book : goal.invariant_of-book
invariant_of-book g c =
    let same = c.in_ok-image.ensures in
    rw c.in-Ok.ensures.ok (first_whole g.S.EpochStore.starts g.S.EpochStore.makes g.S.EpochStore.view g.S.EpochStore.waits _ c.in_ok-store.store c.args.cores c.args.room c.end_at_first-end.ensures.limits
    (rw same c.requires.cores) (rw same c.in_ok-store.ensures.fresh) (rw same c.in_ok-store.ensures.starts) c.in_ok-running.ensures.count c.in_ok-running.ensures.idle c.new.ensures.items
    c.open-totals.ensures.totals refl refl c.end_at_first-end.ensures.end c.requires.most)
