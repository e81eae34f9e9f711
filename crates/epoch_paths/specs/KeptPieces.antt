-- What the code keeps of the pieces in which epochs store.
use Rattle.std.specs.Prelude.{◌≡◌, ◌⊎◌, ℕ, ◌+◌, ◌<◌, List, slice_index}
use Rattle.std.specs.List.{Contains}
use Rattle.rv32_image.specs.Image.{LoadedImage}
use Rattle.epoch_paths.specs.Stored.{StoresInOrder}

-- the list has what the epochs before this one store in order, and no more
pub record AreBefore (image : LoadedImage) (piece_of : ℕ → ℕ) (epoch : ℕ) (list : List (ℕ × ℕ)) : Type 0 where
  pub each : (x : ℕ × ℕ) → Contains list x → (x.1 < epoch) × StoresInOrder image piece_of x.1 x.0
  pub all : (d piece : ℕ) → d < epoch → StoresInOrder image piece_of d piece → Contains list (piece, d)

-- of each piece the last epoch that stores there and 1, or 0 for none: where it is this one, it is in the list
abbrev pub AreNoted : ℕ → List ℕ → List (ℕ × ℕ) → Type 0
AreNoted epoch last list = (piece : ℕ) → slice_index last piece ≡ epoch + 1 → Contains list (piece, epoch)

-- some of the pieces of this epoch are in the list now, and no others
pub record AreMore (epoch : ℕ) (pieces : ℕ → Type 0) (old new : List (ℕ × ℕ)) : Type 0 where
  pub kept : (x : ℕ × ℕ) → Contains old x → Contains new x
  pub only : (x : ℕ × ℕ) → Contains new x → Contains old x ⊎ ((x.1 ≡ epoch) × pieces x.0)
  pub all : (piece : ℕ) → pieces piece → Contains new (piece, epoch)

-- the pieces of the bytes of an access
pub record IsPieceOf (piece_of : ℕ → ℕ) (address width piece : ℕ) : Type 0 where
  pub i : ℕ
  pub below : i < width
  pub is : piece_of (address + i) ≡ piece
