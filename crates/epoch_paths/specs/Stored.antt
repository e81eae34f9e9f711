-- The pieces of memory in which epochs store in order: bytes, or lines of the caches.
-- Source: this project.
use Rattle.std.specs.Prelude.{◌≡◌, ℕ, ◌<◌, List}
use Rattle.std.specs.List.{Contains}
use Rattle.rv32_image.specs.Image.{LoadedImage}
use Rattle.spec_history.specs.Conflict.{line_number}
use Rattle.epoch_paths.specs.declared.pieces.Pieces.{Pieces}
use Rattle.epoch_paths.specs.declared.pieces.Pieces.TheVariants.{Bytes, Lines}
use Rattle.epoch_paths.specs.Paths.{Stores}
use Rattle.epoch_paths.specs.InOrder.{IsInOrder, memory_before}

-- the piece in which the byte at an address lies
abbrev pub piece_in : Pieces → LoadedImage → ℕ → ℕ
piece_in Bytes image a = a
piece_in Lines image a = line_number image a

-- an epoch that runs in order stores a byte that lies in this piece
pub record StoresInOrder (image : LoadedImage) (piece_of : ℕ → ℕ) (epoch piece : ℕ) : Type 0 where
  pub within : epoch < image.epochs
  pub in_order : IsInOrder image epoch
  pub byte : ℕ
  pub of_piece : piece_of byte ≡ piece
  pub stores : Stores image epoch (memory_before image epoch) byte

-- the list has each such piece with each such epoch, and no other
pub record AreStores (image : LoadedImage) (piece_of : ℕ → ℕ) (list : List (ℕ × ℕ)) : Type 0 where
  pub each : (x : ℕ × ℕ) → Contains list x → StoresInOrder image piece_of x.1 x.0
  pub all : (epoch piece : ℕ) → StoresInOrder image piece_of epoch piece → Contains list (piece, epoch)
