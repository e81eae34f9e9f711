use Rattle.conflicts.proofs.Walking.{put, unchanged}
use Rattle.conflicts.proofs.behind.Behind.look.Goals as goal

pub walk-requires : goal.walk-requires
walk-requires c = c.take-accesses.ensures.taken c.args.image.now.size c.args.entries.now c.requires

pub returns-in_err-walk : goal.returns-in_err-walk
returns-in_err-walk c = c.take-accesses.ensures.known c.args.image.now.size c.args.entries.now c.requires

pub returns-in_err-insert : goal.returns-in_err-insert
returns-in_err-insert c =
    unchanged c.args.image.now.size c.args.entries.now c.take-accesses.new.self.found c.insert.new.self (c.take-accesses.ensures.known c.args.image.now.size c.args.entries.now c.requires)
    c.in_err-insert.ensures.err

pub returns : goal.returns
returns c =
    put c.args.image.now.size c.args.entries.now c.args.core c.walk.new.self c.take-accesses.new.self.found c.insert.new.self
    (c.take-accesses.ensures.known c.args.image.now.size c.args.entries.now c.requires) c.in_ok-walk.ensures c.in_ok-insert.ensures.updates
