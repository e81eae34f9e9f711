use Rattle.core_threads.proofs.cores.run_core.Goals as goal

pub invariant_of-result : goal.invariant_of-result
invariant_of-result g c = record { counted = c.core_loop-pass.ensures.counted }
