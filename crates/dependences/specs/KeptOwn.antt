-- What the code keeps of the bytes that an epoch stores, while it runs.
use Rattle.std.specs.Prelude.{◌≡◌, ◌⊎◌, ℕ, ◌+◌, ◌/◌, ◌%◌, ◌==◌, ◌<◌, ◌≤◌, List, length, slice_index, if◌then◌else◌}
use Rattle.std.specs.Int.{bit_at}

-- of each block of 16 bytes the last epoch that stored in it, and 1, or 0 for none; and which of its bytes that has stored
pub record OwnBytes : Type 0 where
  pub by : List ℕ
  pub bits : List ℕ

pub record AreLong (own : OwnBytes) (size : ℕ) : Type 0 where
  pub by : length own.by ≡ size / 16 + 1
  pub bits : length own.bits ≡ size / 16 + 1

-- it was this epoch, and it has stored the byte
abbrev pub HasStored : OwnBytes → ℕ → ℕ → Type 0
HasStored own epoch a = (slice_index own.by (a / 16) ≡ epoch + 1) × (bit_at (slice_index own.bits (a / 16)) (a % 16) ≡ 1)

abbrev pub bits_before : OwnBytes → ℕ → ℕ → ℕ
bits_before own epoch block = if slice_index own.by block == epoch + 1 then slice_index own.bits block else 0

-- this epoch stores these bytes too
pub record AreOwned (old new : OwnBytes) (epoch address width : ℕ) : Type 0 where
  pub by_long : length new.by ≡ length old.by
  pub bits_long : length new.bits ≡ length old.bits
  pub here : (i : ℕ) → i < width → HasStored new epoch (address + i)
  pub still : (a : ℕ) → HasStored old epoch a → HasStored new epoch a
  pub others : (a : ℕ) → (a < address) ⊎ (address + width ≤ a) → HasStored new epoch a → HasStored old epoch a
  pub by : (block : ℕ) → (slice_index new.by block ≡ slice_index old.by block) ⊎ (slice_index new.by block ≡ epoch + 1)
