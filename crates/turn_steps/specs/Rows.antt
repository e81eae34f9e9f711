-- Memory by rows of 16 bytes, as text: a line for the committed bytes of a row, and one for what a core keeps of it. Rows are counted
-- from 0: row `r` has addresses 16 r to 16 r + 15. Each line begins with the name of its place, and is printed where its text isn't as it was.
-- Source: this project.
use Rattle.std.specs.Prelude.{◌≡◌, ℕ, zero, suc, ◌+◌, ◌*◌, ◌/◌, ◌^◌, ◌<◌, Bool, true, List, [], ◌∷◌, ◌++◌, codes, if◌then◌else◌}
use Rattle.std.specs.Fmt.{decimal}
use Rattle.std.specs.Int.{w16, to_be_bytes}
use Rattle.hex.specs.Hex.{encode_lower}
use Rattle.trace_text.specs.Printing.{hex_word}
use Rattle.violations.specs.View.{StoreView}
use Rattle.turn_steps.specs.Places.{changed}

-- how many rows memory has
abbrev pub row_count : StoreView → ℕ
row_count v = v.shape.size / 16

-- so many bytes from an address on
unfoldable pub bytes_from : (ℕ → ℕ) → ℕ → ℕ → List ℕ
bytes_from memory address zero = []
bytes_from memory address (suc count) = bytes_from memory address count ++ memory (address + count) ∷ []

-- a mask of so many bits: bit i says whether the byte at the address and i is one of these
unfoldable pub mask_from : (ℕ → Bool) → ℕ → ℕ → ℕ
mask_from bytes address zero = 0
mask_from bytes address (suc count) = mask_from bytes address count + (if bytes (address + count) then 2 ^ count else 0)

-- the text of each of the first rows, in order
unfoldable pub text_below : (ℕ → List ℕ) → ℕ → List ℕ
text_below text zero = []
text_below text (suc row) = text_below text row ++ text row

-- ---- committed memory

-- `at ADDRESS BYTES`
unfoldable pub at_text : ℕ → List ℕ → List ℕ
at_text row bytes = codes "at " ++ hex_word (16 * row) ++ codes " " ++ encode_lower bytes ++ codes "\n"

abbrev pub at_line : (ℕ → ℕ) → ℕ → List ℕ
at_line committed row = at_text row (bytes_from committed (16 * row) 16)

-- those of the first rows that aren't as they were
abbrev pub at_changes : (ℕ → ℕ) → (ℕ → ℕ) → ℕ → List ℕ
at_changes old now count = text_below (λ row. changed (at_line old row) (at_line now row)) count

-- ---- what a core keeps

-- four hexadecimal digits, the most significant first
abbrev pub hex_mask : ℕ → List ℕ
hex_mask mask = encode_lower (to_be_bytes w16 mask)

-- `kept CORE ADDRESS READ OWN BYTES`: masks of the bytes that the core guards and of those that it has stored, and these
unfoldable pub kept_text : ℕ → ℕ → ℕ → ℕ → List ℕ → List ℕ
kept_text core row read own bytes = codes "kept " ++ decimal core ++ codes " " ++ hex_word (16 * row)
    ++ codes " " ++ hex_mask read ++ codes " " ++ hex_mask own ++ codes " " ++ encode_lower bytes ++ codes "\n"

-- the byte that it has stored, or 0
abbrev pub own_byte : StoreView → ℕ → ℕ → ℕ
own_byte v core a = if v.own core a then v.sees core a else 0

abbrev pub kept_line : ℕ → StoreView → ℕ → List ℕ
kept_line core v row = kept_text core row (mask_from (v.guarded core) (16 * row) 16) (mask_from (v.own core) (16 * row) 16)
    (bytes_from (own_byte v core) (16 * row) 16)

-- those of the first rows that aren't as they were
abbrev pub kept_changes : ℕ → StoreView → StoreView → ℕ → List ℕ
kept_changes core old now count = text_below (λ row. changed (kept_line core old row) (kept_line core now row)) count

-- the core guards and has stored in the row what it had, and the same bytes
pub record IsSameRow (old new : StoreView) (core row : ℕ) : Type 0 where
  pub guarded : (i : ℕ) → i < 16 → new.guarded core (16 * row + i) ≡ old.guarded core (16 * row + i)
  pub own : (i : ℕ) → i < 16 → new.own core (16 * row + i) ≡ old.own core (16 * row + i)
  pub sees : (i : ℕ) → i < 16 → old.own core (16 * row + i) ≡ true → new.sees core (16 * row + i) ≡ old.sees core (16 * row + i)
