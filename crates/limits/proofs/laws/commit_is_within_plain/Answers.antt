use Rattle.std.proofs.Common.{refl}
use Rattle.limits.proofs.laws.commit_is_within_plain.Goals as goal

pub returns : goal.returns
returns c = c.commit_is_within_even.ensures (λ store. refl)
