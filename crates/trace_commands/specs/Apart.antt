-- The words `--apart ADDR:LENGTH:PIECE` of a command line, which are short for the key `apart` of its stores.
-- Source: this project.
use Rattle.std.specs.Prelude.{ℕ, ◌++◌, ◌||◌, Bool, true, false, is_some, not, List, [], ◌∷◌, map, take, drop, codes, Option, Some, None, if◌then◌else◌}
use Rattle.std.specs.List.{list_any, prefix_len}
use Rattle.std.specs.Str.{bytes_eq}
use Rattle.rv32_image.specs.ImageText.{pieces}
use Rattle.trace_commands.specs.declared.store.Store.{Store}
use Rattle.trace_commands.specs.declared.store.Store.TheVariants.{Caches, Plain}
use Rattle.trace_commands.specs.Stores.{apart_of, store_named}

-- does the word say which bytes lie apart?
abbrev pub is_apart : List ℕ → Bool
is_apart word = is_some (apart_of (pieces 58 word))

abbrev pub is_caches : Option Store → Bool
is_caches (Some (Caches asked)) = true
is_caches (Some Plain) = false
is_caches None = false

-- does it name a store of caches?
abbrev pub names_caches : List ℕ → Bool
names_caches word = is_caches (store_named word)

-- the word of such a store with the key `apart` for that: its first key, or one more
unfoldable pub keyed : List ℕ → List ℕ → List ℕ
keyed apart word = word ++ (if bytes_eq word (codes "caches") then codes ":apart=" else codes ",apart=") ++ apart

abbrev pub with_apart : List ℕ → List ℕ → List ℕ
with_apart apart word = if names_caches word then keyed apart word else word

-- where no word names a store of caches, one of its own
abbrev pub own_store : List ℕ → Bool → List (List ℕ)
own_store apart true = []
own_store apart false = keyed apart (codes "caches") ∷ []

-- the words that stood before the two and behind them
abbrev pub spelled_with : List ℕ → List (List ℕ) → List (List ℕ) → List (List ℕ)
spelled_with apart before rest =
    map (with_apart apart) before ++ own_store apart (list_any names_caches before || list_any names_caches rest) ++ map (with_apart apart) rest

-- of the words before the first `--apart`, and of the others
abbrev pub spelled_at : List (List ℕ) → List (List ℕ) → List (List ℕ)
spelled_at before (flag ∷ apart ∷ rest) = if is_apart apart then spelled_with apart before rest else before ++ flag ∷ apart ∷ rest
spelled_at before words = before ++ words

abbrev pub apart_place : List (List ℕ) → ℕ
apart_place words = prefix_len (λ word. not (bytes_eq word (codes "--apart"))) words

-- the words with the key in place of the two; without such two as they are
unfoldable pub spelled : List (List ℕ) → List (List ℕ)
spelled words = spelled_at (take (apart_place words) words) (drop (apart_place words) words)
