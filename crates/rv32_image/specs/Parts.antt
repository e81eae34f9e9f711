-- An image and other lines in one text: the image is all above the first line that begins with a prefix.
-- Source: this project.
use Rattle.std.specs.Prelude.{ℕ, ◌+◌, Bool, ◌==◌, List, [], ◌∷◌, length, take, drop}
use Rattle.std.specs.List.{position_or_len, starts_with}
use Rattle.rv32_image.specs.ImageText.{pieces}

abbrev pub begins_with : List ℕ → List ℕ → Bool
begins_with prefix line = starts_with (λ a b. a == b) line prefix

-- how many lines stand above the first that begins with the prefix; all where none does
unfoldable pub lines_above : List ℕ → List (List ℕ) → ℕ
lines_above prefix lines = position_or_len (begins_with prefix) lines

-- that line and those after it
abbrev pub lines_below : List ℕ → List (List ℕ) → List (List ℕ)
lines_below prefix lines = drop (lines_above prefix lines) lines

-- the bytes of lines, with their line feeds
abbrev pub bytes_of : List (List ℕ) → ℕ
bytes_of [] = 0
bytes_of (line ∷ lines) = length line + 1 + bytes_of lines

-- the image of a text: the lines above, and the whole text where no line begins with the prefix
unfoldable pub image_above : List ℕ → List ℕ → List ℕ
image_above prefix text = take (bytes_of (take (lines_above prefix (pieces 10 text)) (pieces 10 text))) text
