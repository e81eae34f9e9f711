-- What a trace text says, and which fault is the first. An image stands above the trace; numbers, digits and words are spelled
-- as in the image text.
-- Source: this project.
use Rattle.std.specs.Prelude.{ℕ, ◌+◌, ◌^◌, Bool, ◌&&◌, nat_lt, nat_le, Option, Some, None, Result, Ok, Err, List, [], ◌∷◌, ◌++◌, length, codes, if◌then◌else◌}
use Rattle.std.specs.Str.{bytes_eq}
use Rattle.rv32_image.specs.declared.fault.ImageFaultKind.{ImageFaultKind}
use Rattle.rv32_image.specs.declared.version.Version.{Version}
use Rattle.rv32_image.specs.Version.{limits_of}
use Rattle.rv32_image.specs.ImageText.{is_remark, number_in, pieces, word_in}
use Rattle.rv32_image.specs.Parts.{image_above, lines_above, lines_below}
use Rattle.spec_history.specs.declared.entry.Entry.{Entry}
use Rattle.spec_history.specs.declared.entry.What.{What}
use Rattle.spec_history.specs.declared.entry.What.TheVariants.{Start, Load, Store, Hurt, Cancel, Restart, Publish, Commit, Fault}
use Rattle.trace_text.specs.declared.fault.TraceFault.{TraceFault}
use Rattle.trace_text.specs.declared.fault.TraceFaultKind.{TraceFaultKind}
use Rattle.trace_text.specs.declared.fault.TraceFaultKind.TheVariants.{Head, Line, TooLong}

-- the bytes that an image and a trace may have together
abbrev pub longest_trace_text : ℕ
longest_trace_text = 33554432

-- how many cores, and the history
pub record Trace : Type 0 where
  pub cores : ℕ
  pub entries : List Entry

-- ---- steps that may find no answer

infixl 10 ◌>>=◌
abbrev pub ◌>>=◌ : {A B : Type 0} → Option A → (A → Option B) → Option B
(Some x) >>= f = f x
None >>= f = None

abbrev pub where_ok : {A : Type 0} → Result A ImageFaultKind → Option A
where_ok (Ok x) = Some x
where_ok (Err kind) = None

-- ---- words

-- a decimal number below 2^32
unfoldable pub number : List ℕ → Option ℕ
number word = do
  n ← where_ok (number_in word)
  if nat_lt n (2 ^ 32) then Some n else None

-- eight hexadecimal digits
unfoldable pub digits : List ℕ → Option ℕ
digits word = where_ok (word_in word)

-- ---- entries, by the words after the core

unfoldable pub one_word : List ℕ → Option What
one_word keyword =
    if bytes_eq keyword (codes "restart") then Some Restart
    else if bytes_eq keyword (codes "publish") then Some Publish
    else if bytes_eq keyword (codes "commit") then Some Commit
    else None

abbrev pub of_epoch : List ℕ → ℕ → Option What
of_epoch keyword epoch =
    if bytes_eq keyword (codes "start") then Some (Start epoch)
    else if bytes_eq keyword (codes "hurt") then Some (Hurt epoch)
    else if bytes_eq keyword (codes "cancel") then Some (Cancel epoch)
    else None

unfoldable pub two_words : List ℕ → List ℕ → Option What
two_words keyword word = number word >>= of_epoch keyword

unfoldable pub three_words : List ℕ → List ℕ → List ℕ → Option What
three_words keyword first second = do
  cause ← number first
  pc ← digits second
  if bytes_eq keyword (codes "fault") then Some (Fault cause pc) else None

abbrev pub access : List ℕ → ℕ → ℕ → ℕ → Option What
access keyword address width value =
    if bytes_eq keyword (codes "load") then Some (Load address width value)
    else if bytes_eq keyword (codes "store") then Some (Store address width value)
    else None

unfoldable pub four_words : List ℕ → List ℕ → List ℕ → List ℕ → Option What
four_words keyword first second third = do
  address ← digits first
  width ← number second
  value ← digits third
  access keyword address width value

unfoldable pub what_in : List ℕ → List (List ℕ) → Option What
what_in keyword [] = one_word keyword
what_in keyword (first ∷ []) = two_words keyword first
what_in keyword (first ∷ second ∷ []) = three_words keyword first second
what_in keyword (first ∷ second ∷ third ∷ []) = four_words keyword first second third
what_in keyword words = None

-- the entry that the words of a line say
unfoldable pub entry_in : List (List ℕ) → Option Entry
entry_in (core ∷ keyword ∷ words) = do
  by ← number core
  what ← what_in keyword words
  Some (record { by = by; what = what })
entry_in words = None

-- ---- lines

abbrev pub or_fault : {A : Type 0} → Option A → ℕ → TraceFaultKind → Result A TraceFault
or_fault (Some x) n kind = Ok x
or_fault None n kind = Err (record { line = n; kind = kind })

-- the first, and then the others, up to the first fault
abbrev pub joined : Result (List Entry) TraceFault → Result (List Entry) TraceFault → Result (List Entry) TraceFault
joined (Ok first) (Ok others) = Ok (first ++ others)
joined (Ok first) (Err fault) = Err fault
joined (Err fault) others = Err fault

abbrev pub alone : Result Entry TraceFault → Result (List Entry) TraceFault
alone (Ok entry) = Ok (entry ∷ [])
alone (Err fault) = Err fault

-- the entry of line n, and none of a remark
unfoldable pub line_read : ℕ → List ℕ → Result (List Entry) TraceFault
line_read n line = if is_remark line then Ok [] else alone (or_fault (entry_in (pieces 32 line)) n Line)

-- the entries of the lines from line n on
unfoldable pub lines_read : ℕ → List (List ℕ) → Result (List Entry) TraceFault
lines_read n [] = Ok []
lines_read n (line ∷ lines) = joined (line_read n line) (lines_read (n + 1) lines)

-- a machine of this version may have so many cores
abbrev pub is_core_count : Version → ℕ → Bool
is_core_count version n = nat_lt 0 n && nat_le n (limits_of version).most_cores

-- `trace N`
unfoldable pub cores_in : Version → List (List ℕ) → Option ℕ
cores_in version (keyword ∷ word ∷ []) = do
  n ← number word
  if is_core_count version n then Some n else None
cores_in version words = None

abbrev pub of_cores : Result ℕ TraceFault → Result (List Entry) TraceFault → Result Trace TraceFault
of_cores (Ok cores) (Ok entries) = Ok (record { cores = cores; entries = entries })
of_cores (Ok cores) (Err fault) = Err fault
of_cores (Err fault) entries = Err fault

-- the trace that these lines say, of which the head is line n
unfoldable pub trace_at : Version → ℕ → List (List ℕ) → Result Trace TraceFault
trace_at version n [] = Err (record { line = 0; kind = Head })
trace_at version n (head ∷ lines) = of_cores (or_fault (cores_in version (pieces 32 head)) n Head) (lines_read (n + 1) lines)

-- ---- the text

-- a head begins so
abbrev pub trace_prefix : List ℕ
trace_prefix = codes "trace "

-- the trace that a text says, or its first fault; lines count from 1, those of the image too
unfoldable pub trace_text : Version → List ℕ → Result Trace TraceFault
trace_text version text =
    if nat_lt longest_trace_text (length text) then Err (record { line = 0; kind = TooLong })
    else trace_at version (lines_above trace_prefix (pieces 10 text) + 1) (lines_below trace_prefix (pieces 10 text))

-- the image of a text: all above the first line that begins with `trace` and a space, and without such a line the whole text
unfoldable pub image_part : List ℕ → List ℕ
image_part text = image_above trace_prefix text
