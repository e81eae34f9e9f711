-- What one run of the loop shows.
-- Source: this project.
use Rattle.std.specs.Prelude.{ℕ, Some}
use Rattle.rv32_image.specs.Image.{LoadedImage}
use Rattle.dependences.specs.KeptTouches.{IsFound}
use Rattle.dependences.specs.Lengths.{AreLengths}
use Rattle.dependences.specs.Nearest.{IsLaterAt, IsNearest}
use Rattle.dependences.specs.Summed.{AreSums}
use Rattle.never_or_shown.specs.Ran.{IsRun}
use Rattle.trace_commands.specs.declared.store.Store.{Store}
use Rattle.trace_commands.specs.declared.store.Store.TheVariants.{Caches, Plain}
use Rattle.depends.specs.declared.least.Grain.TheVariants.{Lines}
use Rattle.depends.specs.declared.ran.OverCaches.{OverCaches}
use Rattle.depends.specs.declared.ran.OverCaches.TheVariants.{Unseen, Conflict, Clear}
use Rattle.depends.specs.declared.ran.Ran.{Ran}
use Rattle.depends.specs.declared.ran.Seen.{Seen}
use Rattle.depends.specs.Never.{NeverRollsBack}

-- what it shows over the caches of the image's machine
abbrev pub IsOver : LoadedImage → ℕ → OverCaches → Type 0
IsOver image cores Unseen = Unit {0}
IsOver image cores (Conflict conflict) = IsFound image cores (Some conflict)
IsOver image cores Clear = NeverRollsBack image Lines cores

-- by bytes; and over the caches of the image's machine, where it looks at them
pub record IsRan (image : LoadedImage) (cores : ℕ) (ran : Ran) : Type 0 where
  pub sums : AreSums image ran.run.sums
  pub lengths : AreLengths image ran.run.lengths.items
  pub nearest : IsNearest image ran.run.nearest
  pub later : IsLaterAt image ran.run.nearest ran.run.later
  pub over : IsOver image cores ran.over_caches

-- what the lines of the stores take of it
pub record IsSeen (image : LoadedImage) (cores : ℕ) (seen : Seen) : Type 0 where
  pub ran : IsRun image seen.in_order
  pub over : IsOver image cores seen.over_caches

-- what of that is so of the loop on the machine of this store, where it is taken
abbrev pub IsSeenOn : LoadedImage → Store → ℕ → Seen → Type 0
IsSeenOn image (Caches asked) cores seen = IsOver image cores seen.over_caches
IsSeenOn image Plain cores seen = IsRun image seen.in_order
