-- Addresses of code, as words of a command line write them.
-- Source: this project.
use Rattle.std.specs.Prelude.{codes, not, ℕ, Bool, List, [], ◌∷◌, map, is_some, Option, Some, None, unwrap_or, false, if◌then◌else◌}
use Rattle.std.specs.List.{list_all, prefix_len}
use Rattle.std.specs.Str.{bytes_eq}
use Rattle.trace_commands.specs.Addresses.{address_in}

abbrev pub is_address : List ℕ → Bool
is_address word = is_some (address_in word)

-- each word is one, and there is one
abbrev pub are_addresses : List (List ℕ) → Bool
are_addresses [] = false
are_addresses (word ∷ words) = list_all is_address (word ∷ words)

abbrev pub addresses_of : List (List ℕ) → List ℕ
addresses_of words = map (λ word. unwrap_or (address_in word) 0) words

-- ---- loads that wait, behind `--wait`

-- how many words stand before the first `--wait`
abbrev pub wait_place : List (List ℕ) → ℕ
wait_place words = prefix_len (λ word. not (bytes_eq word (codes "--wait"))) words

-- the addresses that it and the words behind it say: no word says none, and it is followed by one at least
abbrev pub waits_in : List (List ℕ) → Option (List ℕ)
waits_in [] = Some []
waits_in (wait ∷ words) = if are_addresses words then Some (addresses_of words) else None
