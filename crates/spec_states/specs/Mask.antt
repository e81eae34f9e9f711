-- The mask of the speculatively modified bytes of a line: bit i is the byte at address i of the line.
use Rattle.std.specs.Prelude.{ℕ, ◌+◌, ◌-◌, ◌^◌, ◌<◌, ◌==◌, ◌&&◌, nat_le, nat_lt, Bool, bit_or}
use Rattle.std.specs.Int.{bit_at}
use Rattle.std.specs.List.{list_all, range_with_len}

-- the bytes of the longest line, and so the bits of a mask
abbrev pub longest_line : ℕ
longest_line = 64

-- is the byte at this offset of the line in the mask?
unfoldable pub has : ℕ → ℕ → Bool
has bytes offset = bit_at bytes offset == 1

-- are the `width` bytes from `offset` on all in the mask?
unfoldable pub has_all : ℕ → ℕ → ℕ → Bool
has_all bytes offset width = list_all (has bytes) (range_with_len offset width)

-- the mask, and the `width` bytes from `offset` on with it
unfoldable pub with_bytes : ℕ → ℕ → ℕ → ℕ
with_bytes bytes offset width = bit_or bytes (2 ^ (offset + width) - 2 ^ offset)

-- is the byte at x among the `width` ones from `offset` on?
abbrev pub is_within : ℕ → ℕ → ℕ → Bool
is_within offset width x = nat_le offset x && nat_lt x (offset + width)

-- the mask has no byte past a line of this length
abbrev pub IsWithinLine : ℕ → ℕ → Type 0
IsWithinLine length bytes = bytes < 2 ^ length
