-- What one run of a loop shows, also over caches.
-- Source: this project.
use Rattle.std.specs.Prelude.{◌≡◌, ℕ, ◌≤◌, None}
use Rattle.rv32_image.specs.Image.{LoadedImage}
use Rattle.dependences.specs.declared.over_caches.RunOverCaches.{RunOverCaches}
use Rattle.dependences.specs.Conflict.{Overflow}
use Rattle.dependences.specs.KeptTouches.{IsFound, IsNever}
use Rattle.dependences.specs.Laws.{NeverOverLines}
use Rattle.dependences.specs.Lengths.{AreLengths}
use Rattle.dependences.specs.Nearest.{IsLaterAt, IsNearest}
use Rattle.dependences.specs.Shared.{AreApart}
use Rattle.dependences.specs.Summed.{AreSums}

-- the dependences and lengths of the run in order; in what two epochs conflict over caches, on so many cores; and, where they don't, that
-- none do, nor on fewer
pub record IsShownOverCaches (image : LoadedImage) (cores : ℕ) (shown : RunOverCaches) : Type 0 where
  pub sums : AreSums image shown.run.sums
  pub lengths : AreLengths image shown.run.lengths.items
  pub nearest : IsNearest image shown.run.nearest
  pub later : IsLaterAt image shown.run.nearest shown.run.later
  pub found : IsFound image cores shown.conflict
  pub none : shown.conflict ≡ None → IsNever image cores
  pub apart : shown.conflict ≡ None → (fewer : ℕ) → fewer ≤ cores → AreApart image fewer
  pub never : shown.conflict ≡ None → (fewer : ℕ) → fewer ≤ cores → (Overflow image fewer → ⊥) → NeverOverLines image fewer
