use Rattle.std.proofs.Common.{arith}
use Rattle.core_threads.proofs.Passing.{new_below, new_from}
use Rattle.core_threads.proofs.cores.split_new.Goals as goal

pub returns-clause-first : goal.returns-clause-first
returns-clause-first g c =
    let high = c.requires.inside.1 in
    new_below c.args.lock.now c.args.pass c.split.result.0 c.args.at c.split.ensures.first c.requires.inside.0 (omega arith) c.requires.new

pub returns-clause-second : goal.returns-clause-second
returns-clause-second g c =
    let low = c.requires.inside.0 in
    new_from c.args.lock.now c.args.pass c.split.result.1 c.args.at c.split.ensures.second (omega arith) c.requires.inside.1 c.requires.new
