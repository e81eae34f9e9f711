use Rattle.std.proofs.Common.{◌≡◌, ℕ, ◌*◌, ◌<◌, Some, length, slice_get, slice_index}
use Rattle.rv32_decode.specs.Table.{meaning_of}
use Rattle.memory_bytes.specs.Bytes.{number_at}
use Rattle.rv32_image.specs.Decoded.{kept_of}
use Rattle.rv32_image.proofs.image.decoded.Given as goal

-- the words so far are decoded
abbrev pub invariant-loop-word : goal.invariant-loop-word
invariant-loop-word l = record {
  count : length l.program.items ≡ l.word;
  each : (k : ℕ) → k < l.word → slice_get l.program.items k ≡ Some (kept_of (meaning_of (number_at (λ a. slice_index l.bytes a) (4 * k) 4)));
}
