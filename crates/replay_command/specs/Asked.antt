-- What the words of a command line ask of the program; the first is the program's name. None: they ask for nothing.
-- Source: this project.
use Rattle.std.specs.Prelude.{ℕ, ◌^◌, Bool, true, false, not, nat_lt, nat_le, ◌==◌, ◌&&◌, ◌||◌, List, [], ◌∷◌, length, take, drop, slice_index, codes, Option, Some, None, if◌then◌else◌}
use Rattle.std.specs.Char.{is_ascii_digit}
use Rattle.std.specs.List.{list_all}
use Rattle.std.specs.Str.{bytes_eq}
use Rattle.std.specs.Str.Parse.{digits_value}
use Rattle.trace_text.specs.TraceText.{◌>>=◌}
use Rattle.trace_commands.specs.Program.{number_up_to_16, only_up_to_16}
use Rattle.replay_command.specs.Stores.{pieces_of}
use Rattle.replay_command.specs.Addresses.{wait_place, waits_in}
use Rattle.replay_command.specs.CostWords.{costs_behind}
use Rattle.turn_costs.specs.declared.costs.Costs.{Costs}
use Rattle.replay_command.specs.declared.detail.Detail.{Detail}
use Rattle.replay_command.specs.declared.detail.Detail.TheVariants.{Whole, Steps}
use Rattle.replay_command.specs.declared.paced.Pace.{Pace}
use Rattle.replay_command.specs.declared.paced.Pace.TheVariants.{Even, Held, Seeded}
use Rattle.trace_commands.specs.Stores.{store_named}
use Rattle.replay_command.specs.declared.words.Turns.{Turns}
use Rattle.replay_command.specs.declared.words.Turns.TheVariants.{Given, Every, Paced, Threaded}
use Rattle.replay_command.specs.declared.words.Request.{Request}

-- ---- words

-- decimal digits, with no leading 0 except 0 itself
abbrev pub is_decimal : List ℕ → Bool
is_decimal word = not (length word == 0) && list_all is_ascii_digit word && (length word == 1 || not (slice_index word 0 == 48))

-- the number that digits write, where it is of 64 bits
unfoldable pub number_of_64_bits : List ℕ → Option ℕ
number_of_64_bits digits = if nat_lt (digits_value 10 digits) (2 ^ 64) then Some (digits_value 10 digits) else None

unfoldable pub seed_in : List ℕ → Option ℕ
seed_in word = if is_decimal word then number_of_64_bits word else None

-- ---- commands

-- these turns over the store of this name
unfoldable pub over : List ℕ → Turns → Option Request
over name turns = do
  store ← store_named name
  Some (record { store = store; turns = turns })

-- `STORE CORES`: the turns of the input; and `STORE`: on as many cores as its trace has
unfoldable pub given : Detail → List ℕ → List (List ℕ) → Option Request
given detail store [] = over store (Given detail None)
given detail store (word ∷ words) = do
  cores ← only_up_to_16 (word ∷ words)
  over store (Given detail (Some cores))

-- `steps STORE CORES`, `steps STORE`: each of those turns is told too
unfoldable pub steps : List (List ℕ) → Option Request
steps [] = None
steps (store ∷ words) = given Steps store words

-- `even STORE CORES`: the run by a pace
unfoldable pub paced : Pace → List (List ℕ) → Option Request
paced pace [] = None
paced pace (store ∷ words) = do
  cores ← only_up_to_16 words
  over store (Paced pace cores)

-- `held STORE CORES`: at even speed, where loads wait for what earlier epochs store in order, over that store
unfoldable pub held : List (List ℕ) → Option Request
held [] = None
held (name ∷ words) = do
  cores ← only_up_to_16 words
  store ← store_named name
  over name (Paced (Held (pieces_of store) None) cores)

-- `threads STORE CORES`: a run on threads
unfoldable pub threaded : List (List ℕ) → Option Request
threaded [] = None
threaded (store ∷ words) = do
  cores ← only_up_to_16 words
  over store (Threaded cores)

-- `seeded SEED STORE CORES`: by the pace that a seed draws
unfoldable pub seeded : List (List ℕ) → Option Request
seeded [] = None
seeded (word ∷ words) = do
  seed ← seed_in word
  paced (Seeded seed) words

-- at most 65,536 schedules of so many turns
abbrev pub is_small : ℕ → ℕ → Bool
is_small cores turns = nat_le (cores ^ turns) 65536

-- `all STORE CORES TURNS`: every schedule of so many turns
unfoldable pub every : List (List ℕ) → Option Request
every (store ∷ word ∷ words) = do
  cores ← number_up_to_16 word
  turns ← only_up_to_16 words
  if is_small cores turns then over store (Every cores turns) else None
every words = None

-- a command by its first word
unfoldable pub command : List ℕ → List (List ℕ) → Option Request
command word words =
    if bytes_eq word (codes "steps") then steps words
    else if bytes_eq word (codes "even") then paced (Even None) words
    else if bytes_eq word (codes "held") then held words
    else if bytes_eq word (codes "seeded") then seeded words
    else if bytes_eq word (codes "all") then every words
    else if bytes_eq word (codes "threads") then threaded words
    else given Whole word words

-- the command that stands behind the program's name
unfoldable pub request_in : List (List ℕ) → Option Request
request_in (program ∷ word ∷ words) = command word words
request_in words = None

-- ---- loads that wait

-- a request, and the addresses of code of the loads that wait
pub record Asked : Type 0 where
  pub request : Request
  pub addresses : List ℕ

abbrev pub is_even : Turns → Bool
is_even (Given detail cores) = false
is_even (Every cores turns) = false
is_even (Paced (Even costs) cores) = true
is_even (Paced (Held pieces costs) cores) = false
is_even (Paced (Seeded seed) cores) = false
is_even (Threaded cores) = false

-- only the run at even speed has such loads
abbrev pub asked_with : List ℕ → Request → Option Asked
asked_with [] request = Some (record { request = request; addresses = [] })
asked_with (address ∷ addresses) request = if is_even request.turns then Some (record { request = request; addresses = address ∷ addresses }) else None

-- the command, with `--wait PC ..` behind it or without
unfoldable pub asked_before_costs : List (List ℕ) → Option Asked
asked_before_costs words = do
  addresses ← waits_in (drop (wait_place words) words)
  request ← request_in (take (wait_place words) words)
  asked_with addresses request

-- ---- what turns cost

-- only at even speed does a turn cost something
abbrev pub paced_with : Costs → Pace → Option Pace
paced_with costs (Even before) = Some (Even (Some costs))
paced_with costs (Held pieces before) = Some (Held pieces (Some costs))
paced_with costs (Seeded seed) = None

abbrev pub turns_with : Costs → Turns → Option Turns
turns_with costs (Paced pace cores) = paced_with costs pace >>= λ now. Some (Paced now cores)
turns_with costs (Given detail cores) = None
turns_with costs (Every cores turns) = None
turns_with costs (Threaded cores) = None

abbrev pub with_costs : Option Costs → Turns → Option Turns
with_costs (Some costs) turns = turns_with costs turns
with_costs None turns = Some turns

-- the command, with costs behind all other words or without
unfoldable pub asked_in : List (List ℕ) → Option Asked
asked_in words = do
  behind ← costs_behind words
  asked ← asked_before_costs behind.words
  turns ← with_costs behind.costs asked.request.turns
  Some (record { request = record { store = asked.request.store; turns = turns }; addresses = asked.addresses })
