-- What a core's cache and its buffer hold, as text: a line for each way of the cache, and one for the buffer. Each begins with the name
-- of its place, and is printed where its text isn't as it was.
-- Source: this project; the states and the marks are those of the protocol.
use Rattle.std.specs.Prelude.{ℕ, zero, suc, ◌/◌, ◌%◌, nat_le, Bool, true, false, List, [], ◌++◌, codes, map, Option, Some, None, if◌then◌else◌}
use Rattle.std.specs.Int.{to_be_bytes, w64}
use Rattle.std.specs.Fmt.{decimal}
use Rattle.std.specs.List.{flat_map, range_with_len}
use Rattle.std.specs.Str.{bytes_eq}
use Rattle.hex.specs.Hex.{encode_lower}
use Rattle.spec_states.specs.declared.line.LineState.{LineState}
use Rattle.spec_states.specs.declared.line.LineState.TheVariants.{I, S, E, M, SpS, SpE}
use Rattle.spec_states.specs.Copies.{LineCopy}
use Rattle.rv32_image.specs.declared.machine.Machine.{Machine}
use Rattle.trace_text.specs.Printing.{hex_word}

-- a text where it isn't as it was
abbrev pub changed : List ℕ → List ℕ → List ℕ
changed old now = if bytes_eq old now then [] else now

-- ---- the ways of a cache

abbrev pub state_name : LineState → List ℕ
state_name I = codes "I"
state_name S = codes "S"
state_name E = codes "E"
state_name M = codes "M"
state_name SpS = codes "SpS"
state_name SpE = codes "SpE"

-- the mark of a line that was speculatively loaded, or none
abbrev pub loaded_word : Bool → List ℕ
loaded_word true = codes "loaded"
loaded_word false = codes "-"

-- the bytes of a line of so many bytes
abbrev pub bytes_text : ℕ → (ℕ → ℕ) → List ℕ
bytes_text size cell = encode_lower (map cell (range_with_len 0 size))

-- the mask of a line of so many bytes: 8 digits, of a line of 64 bytes 16
abbrev pub mask_text : ℕ → ℕ → List ℕ
mask_text size mask = if nat_le size 32 then hex_word (mask % 4294967296) else encode_lower (to_be_bytes w64 mask)

-- a copy that stands in a way: the address of its line, and what the protocol sees of it
pub record Standing : Type 0 where
  pub addr : ℕ
  pub copy : LineCopy

-- address, state, mark, mask and bytes of a copy
abbrev pub copy_text : ℕ → Standing → List ℕ
copy_text size s = hex_word s.addr ++ codes " " ++ state_name s.copy.state ++ codes " " ++ loaded_word s.copy.marks.loaded ++ codes " "
    ++ mask_text size s.copy.marks.bytes ++ codes " " ++ bytes_text size s.copy.cell

-- `-`, or the copy that stands there
abbrev pub standing_text : ℕ → Option Standing → List ℕ
standing_text size None = codes "-"
standing_text size (Some s) = copy_text size s

-- the core, the set and the way of a place, in a cache of sets of so many ways; its places are counted set by set, and in a set way by way
abbrev pub place_text : ℕ → ℕ → ℕ → List ℕ
place_text ways core place = decimal core ++ codes " " ++ decimal (place / ways) ++ codes " " ++ decimal (place % ways) ++ codes " "

-- `line CORE SET WAY -`, or the copy that stands there
unfoldable pub way_line : Machine → ℕ → ℕ → Option Standing → List ℕ
way_line machine core place standing =
    codes "line " ++ place_text machine.ways core place ++ standing_text machine.line_length standing ++ codes "\n"

-- those of the first places that aren't as they were
unfoldable pub way_changes : Machine → ℕ → (ℕ → Option Standing) → (ℕ → Option Standing) → ℕ → List ℕ
way_changes machine core old now zero = []
way_changes machine core old now (suc place) = way_changes machine core old now place
    ++ changed (way_line machine core place (old place)) (way_line machine core place (now place))

-- ---- the buffer

abbrev pub line_text : ℕ → List ℕ
line_text address = codes " " ++ hex_word address

abbrev pub lines_text : List ℕ → List ℕ
lines_text lines = flat_map line_text lines

-- `orb CORE ADDRESS ..`, in the order of the buffer
unfoldable pub orb_line : ℕ → List ℕ → List ℕ
orb_line core lines = codes "orb " ++ decimal core ++ lines_text lines ++ codes "\n"
