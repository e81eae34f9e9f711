-- The word that names a store, and the machine that it asks for.
-- Source: this project.
use Rattle.std.specs.Prelude.{ℕ, Bool, is_some, nat_lt, List, [], ◌∷◌, Option, Some, None, option_map, unwrap_or, Result, Ok, Err, codes, if◌then◌else◌}
use Rattle.std.specs.List.{list_all, join_with_byte}
use Rattle.std.specs.Option.{option_or}
use Rattle.std.specs.Str.{bytes_eq}
use Rattle.rv32_image.specs.declared.apart.Apart.{Apart}
use Rattle.rv32_image.specs.declared.fault.ImageFaultKind.{ImageFaultKind}
use Rattle.rv32_image.specs.declared.machine.Machine.{Machine}
use Rattle.rv32_image.specs.Image.{LoadedImage}
use Rattle.rv32_image.specs.ImageText.{number_in, pieces}
use Rattle.trace_text.specs.TraceText.{◌>>=◌}
use Rattle.trace_commands.specs.Addresses.{address_in}
use Rattle.trace_commands.specs.Program.{number_up_to_16}
use Rattle.trace_commands.specs.declared.store.MachineAsked.{MachineAsked}
use Rattle.trace_commands.specs.declared.store.Store.{Store}
use Rattle.trace_commands.specs.declared.store.Store.TheVariants.{Caches, Plain}

-- ---- the machine

-- this one, but for what is asked for
abbrev pub machine_with : MachineAsked → Machine → Machine
machine_with asked machine =
    record {
      line_length = unwrap_or asked.line_length machine.line_length;
      sets = unwrap_or asked.sets machine.sets;
      ways = unwrap_or asked.ways machine.ways;
      buffer_lines = unwrap_or asked.buffer_lines machine.buffer_lines;
      apart = option_or asked.apart machine.apart;
    }

-- the loop on the machine that is asked for
abbrev pub on_machine : MachineAsked → LoadedImage → LoadedImage
on_machine asked image = record image { machine = machine_with asked image.machine }

abbrev pub nothing_asked : MachineAsked
nothing_asked = record { line_length = None; sets = None; ways = None; buffer_lines = None; apart = None }

-- the machine that a store asks for
abbrev pub asked_by : Store → MachineAsked
asked_by (Caches asked) = asked
asked_by Plain = nothing_asked

-- ---- the word: `plain`, `caches`, or `caches:KEY=N,..`, where each key stands at most once; that of bytes that lie apart is written
-- `apart=ADDR:LENGTH:PIECE`

abbrev pub small_number : Result ℕ ImageFaultKind → Option ℕ
small_number (Ok n) = if nat_lt n 4294967296 then Some n else None
small_number (Err fault) = None

-- a key that has its number doesn't get another
abbrev pub unless_asked : Option ℕ → MachineAsked → Option MachineAsked
unless_asked None asked = Some asked
unless_asked (Some n) asked = None

abbrev pub with_key : MachineAsked → List ℕ → ℕ → Option MachineAsked
with_key asked key n =
    if bytes_eq key (codes "line") then unless_asked asked.line_length (record asked { line_length = Some n })
    else if bytes_eq key (codes "sets") then unless_asked asked.sets (record asked { sets = Some n })
    else if bytes_eq key (codes "ways") then unless_asked asked.ways (record asked { ways = Some n })
    else if bytes_eq key (codes "buffer") then unless_asked asked.buffer_lines (record asked { buffer_lines = Some n })
    else None

-- an address of eight digits, and two numbers
abbrev pub apart_of : List (List ℕ) → Option Apart
apart_of (address ∷ bytes ∷ each ∷ []) = do
  first ← address_in address
  length ← small_number (number_in bytes)
  piece ← small_number (number_in each)
  Some (record { first = first; length = length; piece = piece })
apart_of parts = None

abbrev pub with_apart : MachineAsked → Apart → Option MachineAsked
with_apart asked apart = if is_some asked.apart then None else Some (record asked { apart = Some apart })

abbrev pub with_value : MachineAsked → List ℕ → List ℕ → Option MachineAsked
with_value asked key word =
    if bytes_eq key (codes "apart") then apart_of (pieces 58 word) >>= with_apart asked
    else small_number (number_in word) >>= with_key asked key

-- `KEY=N`
abbrev pub key_read : MachineAsked → List (List ℕ) → Option MachineAsked
key_read asked (key ∷ word ∷ []) = with_value asked key word
key_read asked parts = None

unfoldable pub keys_read : MachineAsked → List (List ℕ) → Option MachineAsked
keys_read asked [] = Some asked
keys_read asked (key ∷ keys) = key_read asked (pieces 61 key) >>= λ next. keys_read next keys

abbrev pub store_without_keys : List ℕ → Option Store
store_without_keys name = if bytes_eq name (codes "caches") then Some (Caches nothing_asked) else if bytes_eq name (codes "plain") then Some Plain else None

abbrev pub store_with_keys : List ℕ → List ℕ → Option Store
store_with_keys name keys = if bytes_eq name (codes "caches") then option_map Caches (keys_read nothing_asked (pieces 44 keys)) else None

-- the keys are all that follows the first colon: there may be colons in it
abbrev pub store_of : List (List ℕ) → Option Store
store_of [] = None
store_of (name ∷ []) = store_without_keys name
store_of (name ∷ part ∷ parts) = store_with_keys name (join_with_byte 58 (part ∷ parts))

-- the store that a word names; none, where it names none
unfoldable pub store_named : List ℕ → Option Store
store_named word = store_of (pieces 58 word)

-- ---- the words of a command line: `PROGRAM CORES`, or `PROGRAM CORES STORE ..`

-- so many cores, and stores by the words that name them
pub record StoresAsked : Type 0 where
  pub cores : ℕ
  pub stores : List (List ℕ)

-- does the word name a store?
abbrev pub names_store : List ℕ → Bool
names_store word = is_some (store_named word)

-- the stores of these words: caches and plain, where there are none
abbrev pub or_both : List (List ℕ) → List (List ℕ)
or_both [] = codes "caches" ∷ codes "plain" ∷ []
or_both stores = stores

-- 1 to 16 cores; any other words ask for nothing
unfoldable pub stores_asked_in : List (List ℕ) → Option StoresAsked
stores_asked_in (program ∷ word ∷ stores) = do
  cores ← number_up_to_16 word
  if list_all names_store stores then Some (record { cores = cores; stores = or_both stores }) else None
stores_asked_in words = None
