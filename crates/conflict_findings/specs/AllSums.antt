-- Words of contracts: all sums over some violations.
use Rattle.std.specs.Prelude.{◌≡◌, List}
use Rattle.conflict_findings.specs.declared.keys.Key.TheVariants.{Epoch, Line, Load, Store}
use Rattle.conflict_findings.specs.declared.part.Part.TheVariants.{Whole}
use Rattle.conflict_findings.specs.declared.rollback.Rollback.{Rollback}
use Rattle.conflict_findings.specs.declared.sums.Sums.{Sums}
use Rattle.conflict_findings.specs.ByPair.{AreByPair}
use Rattle.conflict_findings.specs.Keys.{AreSumsBy}
use Rattle.conflict_findings.specs.Kinds.{AreLines, sums_in}
use Rattle.conflict_findings.specs.Roles.{in_both_roles}
use Rattle.conflict_findings.specs.Sums.{sum_in}

-- they are the sums over these violations
pub record AreAllSums (rollbacks : List Rollback) (sums : Sums) : Type 0 where
  pub whole_is : sums.whole ≡ sum_in Whole rollbacks
  pub kinds_are : sums.kinds ≡ sums_in rollbacks
  pub epochs_are : AreSumsBy Epoch rollbacks sums.epochs
  pub lines_are : AreSumsBy Line rollbacks sums.lines
  pub kind_lines_are : AreLines rollbacks sums.kind_lines
  pub loads_are : AreSumsBy Load rollbacks sums.loads
  pub stores_are : AreSumsBy Store rollbacks sums.stores
  pub instructions_are : AreSumsBy Load (in_both_roles rollbacks) sums.instructions
  pub pairs_are : AreByPair rollbacks sums.pairs
