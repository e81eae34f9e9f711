use Rattle.std.specs.Prelude.{◌+◌}
use Rattle.core_threads.proofs.Passing.{takes_new, stays_new}
use Rattle.core_threads.proofs.cores.take_book.Goals as goal

pub returns-in-Ok : goal.returns-in-Ok
returns-in-Ok g c = takes_new c.args.run.now.lock.now c.args.run.now.cores c.args.last c.in-Ok.held c.requires c.in-Ok.ensures.pass c.in-Ok.ensures.fixed c.in-Ok.ensures.own

pub returns-in-Err : goal.returns-in-Err
returns-in-Err g c = stays_new c.args.run.now.lock.now c.args.run.now.cores (c.args.run.now.cores + 1) c.args.last c.in-Err.last c.requires c.in-Err.ensures.spent
