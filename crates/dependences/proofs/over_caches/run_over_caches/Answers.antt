use Rattle.std.proofs.Common.{◌∙◌}
use Rattle.dependences.proofs.over_caches.run_over_caches.Goals as goal

pub run_all-requires-clause-size : goal.run_all-requires-clause-size
run_all-requires-clause-size g c = c.run_both.auto.memory ∙ c.requires.size
