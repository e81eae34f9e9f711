-- What the words of a command line ask for: `PROGRAM CORES` or `PROGRAM CORES STORE ..`, behind that with `--held` lines of held runs, with `--wait
-- PC ..` which loads wait, with `--limits` the limits, and
-- with `--costs KEY=N,..` and `--hold N` what turns cost, and with `--even-at` up to which costs it gains.
-- Source: this project.
use Rattle.std.specs.Prelude.{ℕ, ◌-◌, Bool, false, List, [], ◌∷◌, length, take, drop, Option, Some, None, option_map, codes, if◌then◌else◌}
use Rattle.std.specs.Str.{bytes_eq}
use Rattle.trace_commands.specs.Stores.{StoresAsked, stores_asked_in}
use Rattle.turn_costs.specs.declared.costs.Costs.{Costs}
use Rattle.replay_command.specs.Addresses.{wait_place, waits_in}
use Rattle.replay_command.specs.CostWords.{CostsBehind, costs_behind}

-- so many cores, stores by the words that name them, whether held runs are printed too, the addresses of the loads that wait, whether limits are,
-- what turns cost, and whether lines `even` are
pub record GainAsked : Type 0 where
  pub cores : ℕ
  pub stores : List (List ℕ)
  pub held : Bool
  pub addresses : List ℕ
  pub limits : Bool
  pub costs : Option Costs
  pub even : Bool

-- ---- the last word

-- is it this one?
abbrev pub ends_with : List ℕ → List (List ℕ) → Bool
ends_with last [] = false
ends_with last (word ∷ []) = bytes_eq word last
ends_with last (word ∷ words) = ends_with last words

-- the words without it
abbrev pub without_last : List ℕ → List (List ℕ) → List (List ℕ)
without_last last words = if ends_with last words then take (length words - 1) words else words

abbrev pub asks_limits : List (List ℕ) → Bool
asks_limits words = ends_with (codes "--limits") words

abbrev pub without_limits : List (List ℕ) → List (List ℕ)
without_limits words = without_last (codes "--limits") words

abbrev pub asks_held : List (List ℕ) → Bool
asks_held words = ends_with (codes "--held") words

abbrev pub without_held : List (List ℕ) → List (List ℕ)
without_held words = without_last (codes "--held") words

-- ---- all words

abbrev pub asked_with : Bool → Bool → List ℕ → StoresAsked → GainAsked
asked_with limits held addresses asked = record { cores = asked.cores; stores = asked.stores; held = held; addresses = addresses; limits = limits; costs = None; even = false }

abbrev pub asked_where : Bool → Bool → Option (List ℕ) → Option StoresAsked → Option GainAsked
asked_where limits held (Some addresses) stores = option_map (asked_with limits held addresses) stores
asked_where limits held None stores = None

-- of the words before the first `--wait`, and of the others
abbrev pub asked_of : Bool → List (List ℕ) → List (List ℕ) → Option GainAsked
asked_of limits before behind = asked_where limits (asks_held before) (waits_in behind) (stores_asked_in (without_held before))

unfoldable pub asked_before_limits : Bool → List (List ℕ) → Option GainAsked
asked_before_limits limits words = asked_of limits (take (wait_place words) words) (drop (wait_place words) words)

abbrev pub asked_before_costs : List (List ℕ) → Option GainAsked
asked_before_costs words = asked_before_limits (asks_limits words) (without_limits words)

-- what turns cost stands behind all others
abbrev pub at_costs : Option Costs → GainAsked → GainAsked
at_costs costs asked = record asked { costs = costs }

abbrev pub asked_behind : Option CostsBehind → Option GainAsked
asked_behind (Some behind) = option_map (at_costs behind.costs) (asked_before_costs behind.words)
asked_behind None = None

abbrev pub asks_even : List (List ℕ) → Bool
asks_even words = ends_with (codes "--even-at") words

abbrev pub without_even : List (List ℕ) → List (List ℕ)
without_even words = without_last (codes "--even-at") words

abbrev pub at_even : Bool → GainAsked → GainAsked
at_even even asked = record asked { even = even }

-- the last word may ask for the lines `even`; any other words ask for nothing
unfoldable pub gain_asked_in : List (List ℕ) → Option GainAsked
gain_asked_in words = option_map (at_even (asks_even words)) (asked_behind (costs_behind (without_even words)))
