use Rattle.std.proofs.Common.{refl}
use Rattle.core_threads.proofs.Turning.{adds_none}
use Rattle.core_threads.proofs.turns.act.Goals as goal

pub returns-in-Err-clause-adds : goal.returns-in-Err-clause-adds
returns-in-Err-clause-adds g c = adds_none c.args.core c.args.book.now c.stop.new.book c.args.shares.now c.stop.ensures.same c.stop.ensures.history

pub returns-in-Err-clause-shut : goal.returns-in-Err-clause-shut
returns-in-Err-clause-shut g c = λ shut s replays. record { book = c.stop.ensures.book s replays; end = c.stop.result; ends = refl }
