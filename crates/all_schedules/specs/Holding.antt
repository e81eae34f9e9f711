-- Which loads wait in a run: those at addresses of code, or those that read what earlier epochs store in order.
-- Source: this project.
use Rattle.std.specs.Prelude.{◌≡◌, ℕ, ◌==◌, Bool, List, [], length}
use Rattle.rv32_image.specs.Image.{LoadedImage}
use Rattle.epoch_paths.specs.declared.pieces.Pieces.{Pieces}
use Rattle.epoch_paths.specs.Stored.{AreStores, piece_in}
use Rattle.even_speed.specs.Held.{Holding, holding}

-- does no load wait at an address?
abbrev pub none_waits : List ℕ → Bool
none_waits addresses = length addresses == 0

-- each load waits that reads such a piece from outside, until the earlier epochs have committed that store there in order
pub record WaitsInOrder (image : LoadedImage) (pieces : Pieces) (h : Holding) : Type 0 where
  pub stores : List (ℕ × ℕ)
  pub are : AreStores image (piece_in pieces image) stores
  pub is : h ≡ holding [] stores (piece_in pieces image)
