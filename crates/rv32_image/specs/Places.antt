-- Where the bytes of memory lie for the caches: each at its address, but for those that have lines of their own behind memory.
-- Programs, histories and texts name a byte by its address; its place tells the line that it lies in. Source: this project; to move
-- data to lines of its own is the remedy of Torrellas, Lam and Hennessy, "False Sharing and Spatial Locality in Multiprocessor
-- Caches", IEEE Transactions on Computers, 1994.
use Rattle.std.specs.Prelude.{◌≡◌, ℕ, ◌+◌, ◌-◌, ◌*◌, ◌/◌, ◌%◌, ◌≤◌, ◌&&◌, nat_le, nat_lt, Bool, if◌then◌else◌, Option, Some, None}
use Rattle.rv32_image.specs.declared.apart.Apart.{Apart}
use Rattle.rv32_image.specs.declared.machine.Machine.{Machine}

-- they are whole words of a memory of so many bytes, and a piece is whole words that fit into a line
pub record FitsApart (size line_length : ℕ) (apart : Apart) : Type 0 where
  pub some_byte : 1 ≤ apart.length
  pub within : apart.first + apart.length ≤ size
  pub first_word : apart.first % 4 ≡ 0
  pub whole_words : apart.length % 4 ≡ 0
  pub some_piece : 1 ≤ apart.piece
  pub piece_words : apart.piece % 4 ≡ 0
  pub short_piece : apart.piece ≤ line_length

-- so they are, if there are such
abbrev pub AllowsApart : ℕ → ℕ → Option Apart → Type 0
AllowsApart size line_length apart = (some : Apart) → apart ≡ Some some → FitsApart size line_length some

-- is the byte one of them?
abbrev pub lies_apart : Apart → ℕ → Bool
lies_apart apart a = nat_le apart.first a && nat_lt a (apart.first + apart.length)

-- the bytes of the lines behind memory, one for each piece
abbrev pub behind : Apart → ℕ → ℕ
behind apart line_length = ((apart.length - 1) / apart.piece + 1) * line_length

-- one of them lies behind memory, in the line of its piece; another byte of memory lies at its address, and what is past the end
-- of memory comes after those lines
abbrev pub place_with : Apart → ℕ → ℕ → ℕ → ℕ
place_with apart line_length size a =
    let x = a - apart.first in
    if lies_apart apart a then size + (x / apart.piece * line_length + x % apart.piece)
    else if nat_lt a size then a
    else a + behind apart line_length

abbrev pub place_by : Option Apart → ℕ → ℕ → ℕ → ℕ
place_by None line_length size a = a
place_by (Some apart) line_length size a = place_with apart line_length size a

-- the place of the byte at an address, of a memory of so many bytes
unfoldable pub place : Machine → ℕ → ℕ → ℕ
place machine size a = place_by machine.apart machine.line_length size a

-- the machine of the places: nothing lies apart there
abbrev pub of_places : Machine → Machine
of_places machine = record machine { apart = None }
