use Rattle.dependences.proofs.Running.{later_at}
use Rattle.dependences.proofs.flow.shown_by.Goals as goal

pub returns-clause-later : goal.returns-clause-later
returns-clause-later c = let all = c.requires in later_at c.args._image.now all.found c.args.flow.nearest c.args.flow.later all.are all.later
