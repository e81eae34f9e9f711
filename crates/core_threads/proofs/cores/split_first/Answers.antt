use Rattle.std.proofs.Common.{rules}
use Rattle.core_threads.proofs.Passing.{new_shares}
use Rattle.core_threads.proofs.cores.split_first.Goals as goal

pub invariant_of-result : goal.invariant_of-result
invariant_of-result g c = record { counted = new_shares c.args.lock.now c.args.pass c.split-shares.result.0 c.requires.0.0 (search rules) }

pub invariant_of-result-2 : goal.invariant_of-result-2
invariant_of-result-2 g c = record { counted = new_shares c.args.lock.now c.split_new-pass.result.0 c.split-shares.result.0 c.split_new-pass.ensures.first.0 (search rules) }
