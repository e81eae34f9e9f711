-- What the run in order shows of its dependences.
-- Source: this project.
use Rattle.std.specs.Prelude.{◌≡◌, ℕ, List}
use Rattle.std.specs.BTreeMap.{BTreeMap, get}
use Rattle.rv32_image.specs.Image.{LoadedImage}
use Rattle.dependences.specs.declared.flow.Dependence.{Dependence}
use Rattle.dependences.specs.declared.pairs.PairSum.{PairSum}
use Rattle.dependences.specs.Flow.{AreDependences}
use Rattle.dependences.specs.Pairs.{by_pcs, pair_sum}

-- these are the sums of these dependences
abbrev pub AreSumsOf : List Dependence → BTreeMap (ℕ × ℕ) PairSum → Type 0
AreSumsOf found sums = (store load : ℕ) → get by_pcs sums (store, load) ≡ pair_sum store load found

-- these are the sums of its dependences by pairs of instructions
pub record AreSums (image : LoadedImage) (sums : BTreeMap (ℕ × ℕ) PairSum) : Type 0 where
  pub found : List Dependence
  pub are : AreDependences image found
  pub each : AreSumsOf found sums
