use Rattle.homefree.proofs.Violations.Knowing.{are_known}
use Rattle.dependences.proofs.laws.without_line_conflict_and_overflow_no_book_is_hurt.Goals as goal

pub returns : goal.returns
returns g c = λ lines buffers.
    let b = c.args.book.now in
    let i = c.look.ensures in
    c.without_line_conflict_and_overflow_none_is_hurt.ensures b.image b.cores b.history i.state i.is_image i.replays i.starts (are_known b.image b.cores b.history i.kinds) lines buffers
