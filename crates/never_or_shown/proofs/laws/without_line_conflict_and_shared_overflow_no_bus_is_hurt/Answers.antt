use Rattle.never_or_shown.proofs.Drives.{none_is_hurt}
use Rattle.never_or_shown.proofs.laws.without_line_conflict_and_shared_overflow_no_bus_is_hurt.Goals as goal

pub returns : goal.returns
returns c = none_is_hurt c.args.book.now c.look.ensures c.look_back.ensures
