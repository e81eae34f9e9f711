use Rattle.dependences.proofs.laws.without_conflict_no_book_is_hurt.Goals as goal

pub returns : goal.returns
returns g c = λ alone free.
    let b = c.args.book.now in
    let i = c.look.ensures in
    c.without_conflict_none_is_hurt.ensures b.image b.cores b.history i.state i.is_image i.replays i.starts (i.meets alone) free
