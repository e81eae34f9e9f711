use Rattle.std.proofs.Common.{arith}
use Rattle.even_speed.proofs.Sounding.{closed_end, may_wake_end, told_end, woken_end}
use Rattle.even_speed.proofs.clock.Clock.closed.Goals as goal

pub woken-requires-clause-may : goal.woken-requires-clause-may
woken-requires-clause-may c = may_wake_end c.args.end c.args.self c.requires.least c.requires.end c.requires.sound

pub dropped-requires : goal.dropped-requires
dropped-requires c = let end = c.requires.end in record {
  so_far = told_end c.args.end c.args.self c.woken.result c.requires.least c.requires.sound c.woken.ensures;
  whole = woken_end c.args.end c.args.self c.woken.result c.requires.least c.requires.sound c.woken.ensures;
  soon = omega (arith, end);
}

pub returns-clause-whole : goal.returns-clause-whole
returns-clause-whole c = closed_end c.args.end c.args.self c.woken.result c.dropped.result c.requires.least c.requires.sound c.woken.ensures c.dropped.ensures
