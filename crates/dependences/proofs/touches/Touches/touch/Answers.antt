use Rattle.dependences.proofs.Buffering.{inside_at}
use Rattle.dependences.proofs.touches.Touches.touch.Goals as goal

pub touch_in-requires-clause-inside : goal.touch_in-requires-clause-inside
touch_in-requires-clause-inside c = inside_at c.args.image.now c.args.epoch c.args.line c.args.self.now c.machine-limit.ensures.limits c.requires.long c.requires.epoch c.requires.within
