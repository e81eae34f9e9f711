-- The front of a text that is read on: its first word, the words of its first line, and the lines below that.
-- Source: this project.
use Rattle.std.specs.Prelude.{◌≡◌, ℕ, Bool, true, nat_lt, ◌==◌, ◌&&◌, ◌||◌, length, slice_index, Option, Some, None, List, [], ◌∷◌, if◌then◌else◌}
use Rattle.std.specs.Borrow.{Bor}
use Rattle.std.specs.Char.{is_ascii_digit}
use Rattle.rv32_image.specs.ImageText.{pieces}
use Rattle.rv32_image.specs.Cutting.{pieces_after}
use Rattle.spec_history.specs.declared.entry.What.{What}

-- a word ends before a space, before a line feed and with the text
abbrev pub ends_word : ℕ → Bool
ends_word b = b == 32 || b == 10

-- the first word is one decimal digit, and something follows it
abbrev pub is_one_digit : List ℕ → Bool
is_one_digit text = nat_lt 1 (length text) && is_ascii_digit (slice_index text 0) && ends_word (slice_index text 1)

unfoldable pub first_word : List ℕ → List ℕ
first_word [] = []
first_word (b ∷ text) = if ends_word b then [] else b ∷ first_word text

-- what follows that word, from what ends it on
unfoldable pub after_word : List ℕ → List ℕ
after_word [] = []
after_word (b ∷ text) = if ends_word b then b ∷ text else after_word text

-- a word ends before this
abbrev pub is_end : List ℕ → Bool
is_end [] = true
is_end (b ∷ text) = ends_word b

unfoldable pub first_line : List ℕ → List ℕ
first_line [] = []
first_line (b ∷ text) = if b == 10 then [] else b ∷ first_line text

-- the words of the first line
unfoldable pub words_in : List ℕ → List (List ℕ)
words_in text = pieces 32 (first_line text)

-- those after a word that this follows
unfoldable pub words_after : List ℕ → List (List ℕ)
words_after [] = []
words_after (b ∷ text) = if b == 32 then words_in text else []

-- the lines below the first
unfoldable pub below : List ℕ → List (List ℕ)
below [] = []
below (b ∷ text) = if b == 10 then pieces 10 text else below text

-- what a line says whose words are all read, and nothing where there are more
unfoldable pub only : What → List (List ℕ) → Option What
only what [] = Some what
only what (word ∷ words) = None

-- the first word and what follows it
pub record IsFront (text word left : List ℕ) : Type 0 where
  pub first : word ≡ first_word text
  pub after : left ≡ after_word text

-- the first word, read by this, and what follows it
pub record IsRead {A : Type 0} (read : List ℕ → Option A) (text : List ℕ) (x : A) (left : List ℕ) : Type 0 where
  pub is : read (first_word text) ≡ Some x
  pub after : left ≡ after_word text

-- another word follows, and begins here
pub record HasNext (left text : List ℕ) : Type 0 where
  pub words : words_after left ≡ words_in text
  pub under : below left ≡ below text

-- a line says this, and these lines are below it
pub record Says {A : Type 0} (said : Option A) (lines : List (List ℕ)) (x : A) (rest : Option (Bor (List ℕ))) : Type 0 where
  pub is : said ≡ Some x
  pub under : pieces_after 10 rest ≡ lines
