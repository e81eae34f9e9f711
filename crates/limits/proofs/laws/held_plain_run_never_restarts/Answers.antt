use Rattle.std.proofs.Common.{refl}
use Rattle.limits.proofs.laws.held_plain_run_never_restarts.Goals as goal

pub returns : goal.returns
returns c = c.held_run_never_restarts.ensures (λ store. refl) (λ store. refl)
