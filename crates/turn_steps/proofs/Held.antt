-- A buffer's lines taken one by one.
use Rattle.std.proofs.Common.{◌≡◌, ℕ, ◌+◌, ◌<◌, List, [], ◌∷◌, ◌++◌, length, take, slice_get, unwrap_or, sym, ap, ◌∙◌}
use Rattle.std.proofs.lemmas.List.{take_more}
use Rattle.std.proofs.lemmas.Option.{unwrap_or-slice_get}

-- the line at a place goes behind those before it
pub next_taken : (lines taken : List ℕ) (place : ℕ) → place < length lines → taken ≡ take place lines
    → taken ++ unwrap_or (slice_get lines place) 0 ∷ [] ≡ take (place + 1) lines
next_taken lines taken place inside so =
    ap (λ these. these ++ unwrap_or (slice_get lines place) 0 ∷ []) so
    ∙ ap (λ line. take place lines ++ line ∷ []) (unwrap_or-slice_get lines place 0)
    ∙ sym (take_more lines place 0 inside)
