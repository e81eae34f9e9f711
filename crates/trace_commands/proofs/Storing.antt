-- The name of a store, and its keys.
use Rattle.std.proofs.Common.{◌≡◌, ℕ, ◌==◌, List, [], ◌∷◌, length, refl, sym, ap, ◌∙◌, arith}
use Rattle.std.specs.List.{join_with_byte}
use Rattle.std.proofs.lemmas.List.Splits.{join_with_byte-slice_split, length-slice_split}
use Rattle.rv32_image.specs.ImageText.{pieces}
use Rattle.trace_commands.specs.Stores.{store_named, store_of, store_with_keys}

-- the pieces of the keys at colons, joined by colons, are the keys
store_of_keys : (name keys : List ℕ) → store_of (name ∷ pieces 58 keys) ≡ store_with_keys name keys
store_of_keys name keys = by (pieces 58 keys) refl
  where
    by : (parts : List (List ℕ)) → pieces 58 keys ≡ parts → store_of (name ∷ parts) ≡ store_with_keys name keys
    by [] none = absurd (omega (arith, length-slice_split (λ b. b == 58) keys, ap length none))
    by (part ∷ parts) are = ap (store_with_keys name) (ap (join_with_byte 58) (sym are) ∙ join_with_byte-slice_split 58 keys)

-- a word is cut at its first colon
pub named_with_keys : (word name keys : List ℕ) → pieces 58 word ≡ name ∷ pieces 58 keys → store_named word ≡ store_with_keys name keys
unfolding store_named
named_with_keys word name keys cut = ap store_of cut ∙ store_of_keys name keys
