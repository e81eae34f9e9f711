use Rattle.std.proofs.Common.{Bool, cond, Some, ap, ◌∙◌, rules}
use Rattle.core_threads.proofs.Turning.{over_where, stopped_same, still_few}
use Rattle.core_threads.proofs.Taking.{going_where}
use Rattle.core_threads.proofs.turns.stop.Goals as goal

pub returns-in-Some-clause-over : goal.returns-in-Some-clause-over
returns-in-Some-clause-over g c = λ _.
    let i = c.ended.ensures.step in
    over_where c.stop.new.self i.state c.ended.result i.replays (c.ended.ensures.end i.state i.replays) (search rules)

pub returns-in-None-clause-stopped : goal.returns-in-None-clause-stopped
returns-in-None-clause-stopped g c = λ _.
    let i = c.ended.ensures.step in
    going_where c.stop.new.self i.state c.ended.result i.replays (c.ended.ensures.end i.state i.replays) c.in-None.is

pub returns-in-Some-clause-same : goal.returns-in-Some-clause-same
returns-in-Some-clause-same g c = (stopped_same c.args.book.now c.stop.new.self c.stop.result c.args.cause c.stop.ensures.book).0

pub returns-in-Some-clause-history : goal.returns-in-Some-clause-history
returns-in-Some-clause-history g c = (stopped_same c.args.book.now c.stop.new.self c.stop.result c.args.cause c.stop.ensures.book).1

pub returns-in-Some-clause-book : goal.returns-in-Some-clause-book
returns-in-Some-clause-book g c = λ s replays.
    c.stop.ensures.book ∙ ap (λ (stops : Bool). cond stops (record c.args.book.now { stopped = Some c.args.cause }) c.args.book.now) (c.stop.ensures.answer s replays)

pub returns-in-Some-clause-few : goal.returns-in-Some-clause-few
returns-in-Some-clause-few g c =
    still_few c.args.book.now c.stop.new.self (stopped_same c.args.book.now c.stop.new.self c.stop.result c.args.cause c.stop.ensures.book).1 c.look.ensures.within c.look.ensures.most

pub returns-in-None-clause-same : goal.returns-in-None-clause-same
returns-in-None-clause-same g c = (stopped_same c.args.book.now c.stop.new.self c.stop.result c.args.cause c.stop.ensures.book).0

pub returns-in-None-clause-history : goal.returns-in-None-clause-history
returns-in-None-clause-history g c = (stopped_same c.args.book.now c.stop.new.self c.stop.result c.args.cause c.stop.ensures.book).1

pub returns-in-None-clause-book : goal.returns-in-None-clause-book
returns-in-None-clause-book g c = λ s replays.
    c.stop.ensures.book ∙ ap (λ (stops : Bool). cond stops (record c.args.book.now { stopped = Some c.args.cause }) c.args.book.now) (c.stop.ensures.answer s replays)

pub returns-in-None-clause-few : goal.returns-in-None-clause-few
returns-in-None-clause-few g c =
    still_few c.args.book.now c.stop.new.self (stopped_same c.args.book.now c.stop.new.self c.stop.result c.args.cause c.stop.ensures.book).1 c.look.ensures.within c.look.ensures.most
