-- What turns cost, as words of a command line say it: behind all others `--costs KEY=N,..`, `--hold N`, or both in this order.
-- Source: this project.
use Rattle.std.specs.Prelude.{ℕ, nat_le, Bool, List, [], ◌∷◌, take, drop, not, ◌||◌, Option, Some, None, option_map, unwrap_or, is_some, codes, Result, Ok, Err, if◌then◌else◌}
use Rattle.std.specs.List.{prefix_len}
use Rattle.std.specs.Str.{bytes_eq}
use Rattle.rv32_image.specs.declared.fault.ImageFaultKind.{ImageFaultKind}
use Rattle.rv32_image.specs.ImageText.{number_in, pieces}
use Rattle.trace_text.specs.TraceText.{◌>>=◌}
use Rattle.turn_costs.specs.declared.costs.Costs.{Costs}
use Rattle.replay_command.specs.declared.costs.CostsAsked.{CostsAsked}

-- ---- `KEY=N,..`

abbrev pub none_asked : CostsAsked
none_asked = record { miss = None; upgrade = None; begin = None; restart = None; commit = None; line = None }

abbrev pub each_asked : ℕ → CostsAsked
each_asked n = record { miss = Some n; upgrade = Some n; begin = Some n; restart = Some n; commit = Some n; line = Some n }

-- a cost is at most 1,000,000 steps
abbrev pub cost_in : Result ℕ ImageFaultKind → Option ℕ
cost_in (Ok n) = if nat_le n 1000000 then Some n else None
cost_in (Err fault) = None

-- each is asked for once at most
abbrev pub unless_asked : Option ℕ → CostsAsked → Option CostsAsked
unless_asked (Some before) asked = None
unless_asked None asked = Some asked

abbrev pub asks_none : CostsAsked → Bool
asks_none a = not (is_some a.miss || is_some a.upgrade || is_some a.begin || is_some a.restart || is_some a.commit || is_some a.line)

-- `bus` is each of them
abbrev pub each_of : CostsAsked → ℕ → Option CostsAsked
each_of asked n = if asks_none asked then Some (each_asked n) else None

abbrev pub with_key : CostsAsked → List ℕ → ℕ → Option CostsAsked
with_key asked key n =
    if bytes_eq key (codes "miss") then unless_asked asked.miss (record asked { miss = Some n })
    else if bytes_eq key (codes "upgrade") then unless_asked asked.upgrade (record asked { upgrade = Some n })
    else if bytes_eq key (codes "begin") then unless_asked asked.begin (record asked { begin = Some n })
    else if bytes_eq key (codes "restart") then unless_asked asked.restart (record asked { restart = Some n })
    else if bytes_eq key (codes "commit") then unless_asked asked.commit (record asked { commit = Some n })
    else if bytes_eq key (codes "line") then unless_asked asked.line (record asked { line = Some n })
    else if bytes_eq key (codes "bus") then each_of asked n
    else None

-- a key and its number, from what is parted by `=`
abbrev pub key_read : CostsAsked → List (List ℕ) → Option CostsAsked
key_read asked (key ∷ number ∷ []) = cost_in (number_in number) >>= with_key asked key
key_read asked parts = None

-- all of them, from what is parted by commas
unfoldable pub keys_read : CostsAsked → List (List ℕ) → Option CostsAsked
keys_read asked [] = Some asked
keys_read asked (key ∷ keys) = key_read asked (pieces 61 key) >>= λ next. keys_read next keys

-- what isn't asked for costs nothing
abbrev pub costs_with : CostsAsked → ℕ → Costs
costs_with a hold = record {
  miss = unwrap_or a.miss 0;
  upgrade = unwrap_or a.upgrade 0;
  begin = unwrap_or a.begin 0;
  restart = unwrap_or a.restart 0;
  commit = unwrap_or a.commit 0;
  line = unwrap_or a.line 0;
  hold = hold;
}

abbrev pub asked_by : List ℕ → Option CostsAsked
asked_by word = keys_read none_asked (pieces 44 word)

-- ---- all words

-- how many words stand before the first of these
abbrev pub costs_place : List (List ℕ) → ℕ
costs_place words = prefix_len (λ word. not (bytes_eq word (codes "--costs") || bytes_eq word (codes "--hold"))) words

-- a number behind `--hold`
abbrev pub hold_read : List ℕ → List ℕ → Option ℕ
hold_read name word = if bytes_eq name (codes "--hold") then cost_in (number_in word) else None

abbrev pub asked_read : List ℕ → List ℕ → Option CostsAsked
asked_read name word = if bytes_eq name (codes "--costs") then asked_by word else None

abbrev pub both_read : Option CostsAsked → Option ℕ → Option (Option Costs)
both_read (Some asked) (Some hold) = Some (Some (costs_with asked hold))
both_read (Some asked) None = None
both_read None hold = None

abbrev pub either_read : Option CostsAsked → Option ℕ → Option (Option Costs)
either_read (Some asked) hold = Some (Some (costs_with asked 0))
either_read None (Some hold) = Some (Some (costs_with none_asked hold))
either_read None None = None

-- the words from there on
abbrev pub costs_read : List (List ℕ) → Option (Option Costs)
costs_read [] = Some None
costs_read (name ∷ word ∷ []) = either_read (asked_read name word) (hold_read name word)
costs_read (name ∷ word ∷ hold ∷ number ∷ []) = both_read (asked_read name word) (hold_read hold number)
costs_read words = None

-- what turns cost, and the words before those that say it
pub record CostsBehind : Type 0 where
  pub costs : Option Costs
  pub words : List (List ℕ)

abbrev pub costs_behind : List (List ℕ) → Option CostsBehind
costs_behind words = option_map (λ costs. record { costs = costs; words = take (costs_place words) words }) (costs_read (drop (costs_place words) words))
