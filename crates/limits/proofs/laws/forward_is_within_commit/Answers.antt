use Rattle.std.proofs.Common.{arith}
use Rattle.limits.proofs.Least.{store_within_commit}
use Rattle.limits.proofs.laws.forward_is_within_commit.Goals as goal

pub returns : goal.returns
returns c image cores forward commit first second = let within = store_within_commit image cores forward commit first second in omega (arith, within)
