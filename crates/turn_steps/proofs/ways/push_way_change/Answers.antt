use Rattle.turn_steps.proofs.Places.{unchanged}
use Rattle.turn_steps.proofs.ways.push_way_change.Goals as goal

pub returns-then-is_same : goal.returns-then-is_same
returns-then-is_same c = unchanged c.args.text.now.items c.args.machine c.args.core c.args.place c.args.old.now c.args.now.now (c.is_same.ensures c.if-is_same.true)
