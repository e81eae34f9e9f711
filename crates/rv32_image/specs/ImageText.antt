-- The image text: what each line says, and which fault is the first.
-- Source: this project.
use Rattle.std.specs.Prelude.{ℕ, ◌+◌, ◌%◌, Bool, true, false, not, ◌==◌, ◌&&◌, ◌||◌, nat_lt, nat_le, Option, Some, None, is_some, is_none, unwrap_or, Result, Ok, Err, List, [], ◌∷◌, ◌++◌, length, take, drop, replicate, slice_get, slice_index, slice_set, codes, if◌then◌else◌}
use Rattle.std.specs.Str.{bytes_eq}
use Rattle.std.specs.Str.Parse.{digits_value}
use Rattle.std.specs.Int.{w32, from_be_bytes}
use Rattle.std.specs.List.{slice_split, list_all}
use Rattle.std.specs.Char.{is_ascii_digit}
use Rattle.hex.specs.Hex.{decode_of, decode_sized}
use Rattle.hex.specs.declared.error.FromHexError.{FromHexError}
use Rattle.rv32_image.specs.declared.fault.ImageFault.{ImageFault}
use Rattle.rv32_image.specs.declared.fault.ImageFaultKind.{ImageFaultKind}
use Rattle.rv32_image.specs.declared.fault.ImageFaultKind.TheVariants.{Line, MissingOrRepeated, Range, Place, Hex, TooLong}
use Rattle.rv32_image.specs.declared.version.Version.{Version}
use Rattle.rv32_image.specs.declared.version.Version.TheVariants.{One, Two}
use Rattle.rv32_image.specs.Version.{limits_of, machine_of}
use Rattle.rv32_image.specs.Image.{LoadedImage}

-- the bytes that an image text may have
abbrev pub longest_image_text : ℕ
longest_image_text = 1048576

-- what the lines so far have said
pub record Draft : Type 0 where
  -- the version: as its line says, and One from the first other line on, where no line says it
  pub version : Option Version
  pub exit : Bool
  pub size : Option ℕ
  pub epochs : Option ℕ
  pub limit : Option ℕ
  -- the length of the code
  pub code : Option ℕ
  -- the registers, x0 first: 0 where no line gives one
  pub registers : List ℕ
  -- which of them a line gave
  pub given : List Bool
  -- memory, empty before its size is known
  pub bytes : List ℕ

abbrev pub blank : Draft
blank = record { version = None; exit = false; size = None; epochs = None; limit = None; code = None; registers = replicate 32 0; given = replicate 32 false; bytes = [] }

-- ---- steps that may find a fault

infixl 10 ◌>>=◌
abbrev pub ◌>>=◌ : {A B : Type 0} → Result A ImageFaultKind → (A → Result B ImageFaultKind) → Result B ImageFaultKind
(Ok x) >>= f = f x
(Err kind) >>= f = Err kind

-- the fault, where the test holds
abbrev pub refused : Bool → ImageFaultKind → Result (Unit {0}) ImageFaultKind
refused test kind = if test then Err kind else Ok tt

-- ---- words

abbrev pub is_empty : List ℕ → Bool
is_empty word = length word == 0

-- one to ten decimal digits, with no leading 0 except 0 itself
abbrev pub is_number : List ℕ → Bool
is_number word =
    not (is_empty word) && nat_le (length word) 10 && list_all is_ascii_digit word && (length word == 1 || not (slice_index word 0 == 48))

abbrev pub number_in : List ℕ → Result ℕ ImageFaultKind
number_in word = if is_number word then Ok (digits_value 10 word) else Err Line

abbrev pub hex_or_fault : {A : Type 0} → Result A FromHexError → Result A ImageFaultKind
hex_or_fault (Ok x) = Ok x
hex_or_fault (Err e) = Err Hex

-- the bytes that hexadecimal digits of either case give, two digits each
abbrev pub bytes_in : List ℕ → Result (List ℕ) ImageFaultKind
bytes_in word = hex_or_fault (decode_of word)

-- the number that just eight hexadecimal digits write, the most significant first
abbrev pub word_in : List ℕ → Result ℕ ImageFaultKind
word_in digits = hex_or_fault (decode_sized digits 4) >>= λ bytes. Ok (from_be_bytes w32 bytes)

-- ---- lines

-- the number of a version
abbrev pub version_of : ℕ → Result Version ImageFaultKind
version_of n = if n == 1 then Ok One else if n == 2 then Ok Two else Err Range

-- `version N`: above all other lines
unfoldable pub version_line : Draft → List ℕ → Result Draft ImageFaultKind
version_line draft word = do
  n ← number_in word
  _ ← refused (is_some draft.version) MissingOrRepeated
  version ← version_of n
  Ok (record draft { version = Some version })

-- the version of the image, where no later line says it
abbrev pub version_in : Draft → Version
version_in draft = unwrap_or draft.version One

-- at a line other than `version` the version is settled
abbrev pub settled : Draft → Draft
settled draft = record draft { version = Some (version_in draft) }

-- `exit`: an epoch may exit the loop
unfoldable pub exit_line : Draft → Result Draft ImageFaultKind
exit_line draft = do
  _ ← refused draft.exit MissingOrRepeated
  Ok (record draft { exit = true })

-- memory of this version may have so many bytes
abbrev pub is_size : Version → ℕ → Bool
is_size version n =
    nat_le (limits_of version).least_size n && nat_le n (limits_of version).most_size && n % (machine_of version).line_length == 0

-- `size N`: bytes of memory, all 0 so far
unfoldable pub size_line : Draft → List ℕ → Result Draft ImageFaultKind
size_line draft word = do
  n ← number_in word
  _ ← refused (is_some draft.size) MissingOrRepeated
  _ ← refused (not (is_size (version_in draft) n)) Range
  Ok (record draft { size = Some n; bytes = replicate n 0 })

-- `epochs N`
unfoldable pub epochs_line : Draft → List ℕ → Result Draft ImageFaultKind
epochs_line draft word = do
  n ← number_in word
  _ ← refused (is_some draft.epochs) MissingOrRepeated
  _ ← refused (nat_lt 65535 n) Range
  Ok (record draft { epochs = Some n })

-- `limit N`: instructions per epoch
unfoldable pub limit_line : Draft → List ℕ → Result Draft ImageFaultKind
limit_line draft word = do
  n ← number_in word
  _ ← refused (is_some draft.limit) MissingOrRepeated
  _ ← refused (n == 0 || nat_lt 1000000 n) Range
  Ok (record draft { limit = Some n })

-- the bytes with these ones put from an address on
abbrev pub with_bytes : List ℕ → ℕ → List ℕ → List ℕ
with_bytes memory address bytes = take address memory ++ bytes ++ drop (address + length bytes) memory

-- memory has room for code of so many bytes
abbrev pub is_code_length : ℕ → ℕ → Bool
is_code_length size n = nat_le 4 n && nat_le n size && n % 4 == 0

-- `code HEX`: code bytes from address 0 on, below the size
unfoldable pub code_line : Draft → List ℕ → Result Draft ImageFaultKind
code_line draft word = do
  _ ← refused (is_empty word) Line
  _ ← refused (is_some draft.code || is_none draft.size) MissingOrRepeated
  code ← bytes_in word
  _ ← refused (not (is_code_length (length draft.bytes) (length code))) Range
  Ok (record draft { code = Some (length code); bytes = with_bytes draft.bytes 0 code })

-- a register that this image gives already
abbrev pub is_given : Draft → ℕ → Bool
is_given draft n = unwrap_or (slice_get draft.given n) false

-- a register that a line may give: x0 is 0, and an epoch's start sets x1 and x10
abbrev pub is_free_register : ℕ → Bool
is_free_register n = nat_lt n 32 && not (n == 0) && not (n == 1) && not (n == 10)

-- `reg N HEX8`: register N at the start
unfoldable pub reg_line : Draft → List ℕ → List ℕ → Result Draft ImageFaultKind
reg_line draft number digits = do
  n ← number_in number
  _ ← refused (is_empty digits) Line
  _ ← refused (is_given draft n) MissingOrRepeated
  value ← word_in digits
  _ ← refused (not (is_free_register n)) Range
  Ok (record draft { registers = slice_set draft.registers n value; given = slice_set draft.given n true })

-- the bytes lie in memory, outside the code
abbrev pub is_data_place : Draft → ℕ → ℕ → Bool
is_data_place draft address n = nat_le (unwrap_or draft.code 0) address && nat_le (address + n) (length draft.bytes)

-- `at HEX8 HEX`: bytes from an address on, below the size and the code; a later line overwrites an earlier one
unfoldable pub at_line : Draft → List ℕ → List ℕ → Result Draft ImageFaultKind
at_line draft digits word = do
  _ ← refused (is_empty digits || is_empty word) Line
  _ ← refused (is_none draft.size || is_none draft.code) MissingOrRepeated
  address ← word_in digits
  bytes ← bytes_in word
  _ ← refused (not (is_data_place draft address (length bytes))) Place
  Ok (record draft { bytes = with_bytes draft.bytes address bytes })

-- a line of one word, of two, and of three
unfoldable pub one_word : Draft → List ℕ → Result Draft ImageFaultKind
one_word draft keyword = if bytes_eq keyword (codes "exit") then exit_line draft else Err Line

unfoldable pub two_words : Draft → List ℕ → List ℕ → Result Draft ImageFaultKind
two_words draft keyword word =
    if bytes_eq keyword (codes "size") then size_line draft word
    else if bytes_eq keyword (codes "epochs") then epochs_line draft word
    else if bytes_eq keyword (codes "limit") then limit_line draft word
    else if bytes_eq keyword (codes "code") then code_line draft word
    else Err Line

unfoldable pub three_words : Draft → List ℕ → List ℕ → List ℕ → Result Draft ImageFaultKind
three_words draft keyword first second =
    if bytes_eq keyword (codes "reg") then reg_line draft first second
    else if bytes_eq keyword (codes "at") then at_line draft first second
    else Err Line

abbrev pub words_read : Draft → List (List ℕ) → Result Draft ImageFaultKind
words_read draft (keyword ∷ []) = one_word (settled draft) keyword
words_read draft (keyword ∷ word ∷ []) =
    if bytes_eq keyword (codes "version") then version_line draft word else two_words (settled draft) keyword word
words_read draft (keyword ∷ first ∷ second ∷ []) = three_words (settled draft) keyword first second
words_read draft words = Err Line

-- an empty line, and a line that begins with #
abbrev pub is_remark : List ℕ → Bool
is_remark line = is_empty line || slice_index line 0 == 35

-- the pieces between separators
abbrev pub pieces : ℕ → List ℕ → List (List ℕ)
pieces separator text = slice_split (λ b. b == separator) text

-- one line; words are parted by one space
unfoldable pub line_read : Draft → List ℕ → Result Draft ImageFaultKind
line_read draft line = if is_remark line then Ok draft else words_read draft (pieces 32 line)

-- ---- the text

abbrev pub on_line : ℕ → Result Draft ImageFaultKind → (Draft → Result Draft ImageFault) → Result Draft ImageFault
on_line n (Ok draft) next = next draft
on_line n (Err kind) next = Err (record { line = n; kind = kind })

-- the lines from line n on, up to the first that has a fault
unfoldable pub lines_read : ℕ → Draft → List (List ℕ) → Result Draft ImageFault
lines_read n draft [] = Ok draft
lines_read n draft (line ∷ lines) = on_line n (line_read draft line) (λ next. lines_read (n + 1) next lines)

abbrev pub image_of_parts : Draft → Option ℕ → Option ℕ → Option ℕ → Option ℕ → Result LoadedImage ImageFault
image_of_parts draft (Some size) (Some code) (Some epochs) (Some limit) =
    Ok (record {
      version = version_in draft;
      machine = machine_of (version_in draft);
      exit = draft.exit;
      size = size;
      code = code;
      epochs = epochs;
      limit = limit;
      registers = draft.registers;
      bytes = draft.bytes;
    })
image_of_parts draft size code epochs limit = Err (record { line = 0; kind = MissingOrRepeated })

-- the image, where no line that it needs is missing
unfoldable pub finished : Draft → Result LoadedImage ImageFault
finished draft = image_of_parts draft draft.size draft.code draft.epochs draft.limit

abbrev pub then_finished : Result Draft ImageFault → Result LoadedImage ImageFault
then_finished (Ok draft) = finished draft
then_finished (Err fault) = Err fault

-- the image that a text says, or its first fault; lines end in a line feed and count from 1
unfoldable pub image_text : List ℕ → Result LoadedImage ImageFault
image_text text =
    if nat_lt longest_image_text (length text) then Err (record { line = 0; kind = TooLong })
    else then_finished (lines_read 1 blank (pieces 10 text))
