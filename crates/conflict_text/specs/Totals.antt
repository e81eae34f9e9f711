-- Words of contracts: the sums over the violations of a history, before they are printed.
use Rattle.std.specs.Prelude.{◌≡◌, ℕ, List, ◌++◌, reverse}
use Rattle.std.specs.BTreeMap.{BTreeMap}
use Rattle.rv32_image.specs.Image.{LoadedImage}
use Rattle.conflict_findings.specs.declared.ended.Ended.{Ended}
use Rattle.conflict_findings.specs.declared.ended.Running.{Running}
use Rattle.conflict_findings.specs.declared.kinds.SumsByKind.{SumsByKind}
use Rattle.conflict_findings.specs.declared.keys.Key.TheVariants.{Epoch, Line, Load, Store}
use Rattle.conflict_findings.specs.declared.rollback.Rollback.{Rollback}
use Rattle.conflict_findings.specs.declared.sum.Sum.{Sum}
use Rattle.conflict_findings.specs.Keys.{AreSums, AreSumsBy}
use Rattle.conflict_findings.specs.Kinds.{AreLines}
use Rattle.conflict_findings.specs.Order.{AreHeaviest, ArePairSums}
use Rattle.conflict_findings.specs.Roles.{in_both_roles}
use Rattle.conflict_text.specs.declared.report.Totals.{Totals}
use Rattle.conflict_text.specs.Report.{IsSummary, kind_lines, kinds_text, total_line, total_text}

abbrev pub last_text : LoadedImage → ℕ → SumsByKind → Sum → List Ended → List Running → List ℕ
last_text image homefree kinds whole ended running = kinds_text kinds ++ total_text image.epochs homefree whole ended running

abbrev pub last_lines : LoadedImage → ℕ → List Rollback → List Ended → List Running → List ℕ
last_lines image homefree rollbacks ended running = kind_lines rollbacks ++ total_line image homefree rollbacks ended running

-- they are the sums over these violations
pub record AreTotals (image : LoadedImage) (homefree : ℕ) (rollbacks : List Rollback) (ended : List Ended) (running : List Running) (sums : Totals) : Type 0 where
  pub epochs_are : AreSumsBy Epoch rollbacks sums.epochs
  pub pairs_are : ArePairSums rollbacks (reverse sums.pairs.items)
  pub by_line : BTreeMap ℕ Sum
  pub by_line_are : AreSums Line rollbacks by_line
  pub lines_are : AreHeaviest by_line sums.lines.items
  pub kinds_are : AreLines rollbacks sums.kinds
  pub loads_are : AreSumsBy Load rollbacks sums.loads
  pub stores_are : AreSumsBy Store rollbacks sums.stores
  pub instructions_are : AreSumsBy Load (in_both_roles rollbacks) sums.instructions
  pub last_are : sums.last.items ≡ last_lines image homefree rollbacks ended running

-- their lines stand at the end of a text
pub record IsSummed (image : LoadedImage) (homefree : ℕ) (rollbacks : List Rollback) (ended : List Ended) (running : List Running) (old new : List ℕ) : Type 0 where
  pub sums : List ℕ
  pub summed : IsSummary image homefree rollbacks ended running sums
  pub printed : new ≡ old ++ sums
