-- The lines of the limits.
-- Source: this project.
use Rattle.std.specs.Prelude.{◌≡◌, ℕ, Bool, true, false, List, [], ◌∷◌, ◌++◌, codes}
use Rattle.rv32_image.specs.Image.{LoadedImage}
use Rattle.limits.specs.declared.limit.Limits.{Limits}
use Rattle.limits.specs.declared.limit.Waits.TheVariants.{Commit, Store}
use Rattle.limits.specs.Limits.{IsLimit}
use Rattle.gain.specs.Lines.{more_counts}
use Rattle.gain.specs.Text.{number}

-- what the dependences of the loop allow on so many cores
pub record AreLimits (image : LoadedImage) (cores : ℕ) (limits : Limits) : Type 0 where
  pub forward : IsLimit image Store cores limits.forward
  pub commit : IsLimit image Commit cores limits.commit

unfoldable pub limit_line : ℕ → Limits → List ℕ
limit_line cores limits =
    number (codes "limit cores ") cores ++ number (codes " forward ") limits.forward ++ number (codes " commit ") limits.commit ++ codes "\n"

-- to a text, the line of the limits of so many cores
pub record AddLimit (image : LoadedImage) (cores : ℕ) (old new : List ℕ) : Type 0 where
  pub limits : Limits
  pub are : AreLimits image cores limits
  pub longer : new ≡ old ++ limit_line cores limits

-- so for each number of cores
abbrev pub AddLimits : LoadedImage → List ℕ → List ℕ → List ℕ → Type 0
AddLimits image [] old new = new ≡ old
AddLimits image (cores ∷ rest) old new = (mid : List ℕ) × AddLimit image cores old mid × AddLimits image rest mid new

-- where they are asked for, for one core, and for more up to these
abbrev pub AddLimitsIf : Bool → LoadedImage → ℕ → List ℕ → List ℕ → Type 0
AddLimitsIf true image cores old new = AddLimits image (1 ∷ more_counts cores) old new
AddLimitsIf false image cores old new = new ≡ old
