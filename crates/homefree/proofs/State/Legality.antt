-- A test of what a core runs.
use Rattle.std.proofs.Common.{◌≡◌, Bool, true, false, Option, Some, ap, ◌∙◌}
use Rattle.spec_history.specs.FlatState.{CoreState}
use Rattle.spec_history.specs.Effect.{by_core}

pub by_it : (core : Option CoreState) (c : CoreState) (test : CoreState → Bool) → core ≡ Some c → test c ≡ true → by_core core false test ≡ true
by_it core c test at is = ap (λ o. by_core o false test) at ∙ is
