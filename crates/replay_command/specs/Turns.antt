-- What the lines of turns below an image say, and which fault is the first. Numbers, words and remarks are spelled as in the image text.
-- Source: this project.
use Rattle.std.specs.Prelude.{ℕ, ◌+◌, nat_lt, Option, Some, None, Result, Ok, Err, List, [], ◌∷◌, ◌++◌, drop, codes, if◌then◌else◌}
use Rattle.rv32_image.specs.ImageText.{is_remark, number_in, pieces}
use Rattle.rv32_image.specs.Parts.{begins_with, image_above, lines_above, lines_below}
use Rattle.trace_text.specs.declared.fault.TraceFault.{TraceFault}
use Rattle.trace_text.specs.declared.fault.TraceFaultKind.TheVariants.{Line}
use Rattle.trace_text.specs.TraceText.{◌>>=◌, or_fault, where_ok}

-- ---- words

-- the number of a core that is there
unfoldable pub core_in : ℕ → List ℕ → Option ℕ
core_in cores word = do
  k ← where_ok (number_in word)
  if nat_lt k cores then Some k else None

-- the first, and then the others, up to the first fault
abbrev pub joined : Result (List ℕ) TraceFault → Result (List ℕ) TraceFault → Result (List ℕ) TraceFault
joined (Ok first) (Ok others) = Ok (first ++ others)
joined (Ok first) (Err fault) = Err fault
joined (Err fault) others = Err fault

abbrev pub alone : Result ℕ TraceFault → Result (List ℕ) TraceFault
alone (Ok core) = Ok (core ∷ [])
alone (Err fault) = Err fault

-- a turn of the core that a word of line n says
abbrev pub word_read : ℕ → ℕ → List ℕ → Result (List ℕ) TraceFault
word_read cores n word = alone (or_fault (core_in cores word) n Line)

-- one turn for each word
unfoldable pub words_read : ℕ → ℕ → List (List ℕ) → Result (List ℕ) TraceFault
words_read cores n [] = Ok []
words_read cores n (word ∷ words) = joined (word_read cores n word) (words_read cores n words)

-- ---- lines

-- a line of turns begins so
abbrev pub turns_prefix : List ℕ
turns_prefix = codes "turns "

-- `turns K K ..`: whose turns, in order; and none of a remark
unfoldable pub line_read : ℕ → ℕ → List ℕ → Result (List ℕ) TraceFault
line_read cores n line =
    if is_remark line then Ok []
    else if begins_with turns_prefix line then words_read cores n (pieces 32 (drop 6 line))
    else Err (record { line = n; kind = Line })

-- the turns of the lines from line n on
unfoldable pub lines_read : ℕ → ℕ → List (List ℕ) → Result (List ℕ) TraceFault
lines_read cores n [] = Ok []
lines_read cores n (line ∷ lines) = joined (line_read cores n line) (lines_read cores (n + 1) lines)

-- ---- the text

-- the schedule that a text says for so many cores, or its first fault; lines count from 1, those of the image too
unfoldable pub schedule_text : ℕ → List ℕ → Result (List ℕ) TraceFault
schedule_text cores text = lines_read cores (lines_above turns_prefix (pieces 10 text) + 1) (lines_below turns_prefix (pieces 10 text))

-- the image of a text: all above the first line of turns, and without such a line the whole text
abbrev pub image_part : List ℕ → List ℕ
image_part text = image_above turns_prefix text
