use Rattle.conflicts.proofs.Storing.{found_now, known_more, known_still}
use Rattle.conflicts.proofs.ahead.Ahead.look.Goals as goal

pub returns-in_err-insert-clause-known : goal.returns-in_err-insert-clause-known
returns-in_err-insert-clause-known c = known_still c.args.self.now c.insert.new.self _ _ c.requires.known c.in_err-insert.ensures.err

pub returns-clause-found : goal.returns-clause-found
returns-clause-found c = found_now c.args.self.now c.insert.new.self c.args.core c.args.after _ _ _ c.in_ok-stores.ensures c.requires.within c.in_ok-insert.ensures.updates

pub returns-clause-known : goal.returns-clause-known
returns-clause-known c = known_more c.args.self.now c.insert.new.self c.args.core c.args.after _ _ _ c.requires.known c.in_ok-stores.ensures c.in_ok-insert.ensures.updates
