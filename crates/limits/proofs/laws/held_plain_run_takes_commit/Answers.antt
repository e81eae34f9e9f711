use Rattle.std.proofs.Common.{refl}
use Rattle.limits.proofs.laws.held_plain_run_takes_commit.Goals as goal

pub returns : goal.returns
returns c = c.held_run_takes_commit.ensures (λ store. refl) (λ store. refl)
