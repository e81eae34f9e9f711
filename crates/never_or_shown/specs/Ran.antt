-- What the run in order shows of how near epochs depend on each other.
-- Source: this project.
use Rattle.rv32_image.specs.Image.{LoadedImage}
use Rattle.epoch_paths.specs.InOrder.{AreAll}
use Rattle.dependences.specs.Nearest.{IsLaterAt, IsNearest}
use Rattle.never_or_shown.specs.declared.shown.InOrder.{InOrder}

-- so many epochs run in order, they depend on each other so near, and this one depends so near on an earlier one
pub record IsRun (image : LoadedImage) (ran : InOrder) : Type 0 where
  pub all : AreAll image ran.epochs
  pub nearest : IsNearest image ran.nearest
  pub later : IsLaterAt image ran.nearest ran.later
