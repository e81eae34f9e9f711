use Rattle.std.proofs.Common.{◌==◌, ap}
use Rattle.violations.proofs.core_set.CoreSet.is_empty.Goals as goal

pub returns : goal.returns
returns c = ap (λ n. n == 0) c.len.ensures
