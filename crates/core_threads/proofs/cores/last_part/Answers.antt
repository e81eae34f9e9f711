use Rattle.core_threads.proofs.Passing.{new_shares}
use Rattle.core_threads.proofs.cores.last_part.Goals as goal

pub invariant_of-result : goal.invariant_of-result
invariant_of-result g c = record { counted = new_shares c.args.run.now.lock.now c.let_go-pass.result c.args.shares c.let_go-pass.ensures.0 c.requires.empty }
