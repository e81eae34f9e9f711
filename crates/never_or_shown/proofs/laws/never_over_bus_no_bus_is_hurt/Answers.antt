use Rattle.std.proofs.Common.{refl}
use Rattle.never_or_shown.proofs.laws.never_over_bus_no_bus_is_hurt.Goals as goal

pub returns : goal.returns
returns c = λ never. never c.args.book.now refl refl c.look.ensures c.look_back.ensures
