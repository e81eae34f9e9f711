-- The code of an image, decoded.
use Rattle.std.specs.Prelude.{◌≡◌, ℕ, ◌+◌, ◌*◌, ◌<◌, nat_lt, Some, List, length, slice_get, slice_index, Result, Ok, Err, if◌then◌else◌}
use Rattle.rv32_decode.specs.declared.instr.Instr.{Instr}
use Rattle.rv32_decode.specs.declared.instr.Instr.TheVariants.{Jal}
use Rattle.rv32_decode.specs.declared.refused.Refused.{Refused}
use Rattle.rv32_decode.specs.declared.refused.Refused.TheVariants.{Illegal}
use Rattle.rv32_decode.specs.Table.{meaning_of}
use Rattle.memory_bytes.specs.Bytes.{number_at}
use Rattle.rv32_image.specs.Image.{LoadedImage}

-- a jump that faults wherever it stands, since its target is no multiple of 4
abbrev pub trap : Instr
trap = Jal 0 2

-- what is kept of a word's meaning: its instruction, or a trap
unfoldable pub kept_of : Result Instr Refused → Instr
kept_of (Ok instr) = instr
kept_of (Err refused) = trap

-- what the code says at a word; after its last it says nothing
abbrev pub word_in : LoadedImage → ℕ → Result Instr Refused
word_in image word = if nat_lt (4 * word) image.code then meaning_of (number_at (λ a. slice_index image.bytes a) (4 * word) 4) else Err Illegal

-- what is kept of the words of the code, in order, and after them a trap
pub record IsDecoded (program : List Instr) (code : ℕ) (bytes : List ℕ) : Type 0 where
  pub long : 4 * length program ≡ code + 4
  pub each : (k : ℕ) → 4 * k < code → slice_get program k ≡ Some (kept_of (meaning_of (number_at (λ a. slice_index bytes a) (4 * k) 4)))
  pub last : (k : ℕ) → 4 * k ≡ code → slice_get program k ≡ Some trap
