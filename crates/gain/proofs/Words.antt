-- What a last `--limits` does to the words.
use Rattle.std.proofs.Common.{◌≡◌, ℕ, ◌-◌, Bool, true, false, List, [], ◌∷◌, ◌++◌, length, take, map, if◌then◌else◌, refl, sym, ap, arith, ◌∙◌}
use Rattle.std.proofs.lemmas.List.{length-append, map-append}
use Rattle.std.proofs.Math.Seq.{take-append_seam}
use Rattle.std.specs.Str.{bytes_eq}
use Rattle.gain.specs.Asked.{ends_with, without_last}

module _ (end : List ℕ) where
  last_asks : (before : List (List ℕ)) (last : List ℕ) → ends_with end (before ++ last ∷ []) ≡ bytes_eq last end
  last_asks [] last = refl
  last_asks (word ∷ []) last = refl
  last_asks (word ∷ next ∷ before) last = last_asks (next ∷ before) last

  all_but_last : (before : List (List ℕ)) (last : List ℕ) → take (length (before ++ last ∷ []) - 1) (before ++ last ∷ []) ≡ before
  all_but_last before last =
      let long : length (before ++ last ∷ []) - 1 ≡ length before = omega (arith, length-append before (last ∷ [])) in
      ap (λ n. take n (before ++ last ∷ [])) long ∙ take-append_seam before (last ∷ [])

  unasked : (words : List (List ℕ)) → ends_with end words ≡ false → words ≡ without_last end words
  unasked words none = ap (λ (b : Bool). if b then take (length words - 1) words else words) (sym none)

  asked : (words before : List (List ℕ)) → ends_with end words ≡ true → take (length words - 1) words ≡ before → before ≡ without_last end words
  asked words before so is = sym is ∙ ap (λ (b : Bool). if b then take (length words - 1) words else words) (sym so)

  module _ {A : Type 0} (text : A → List ℕ) (words before : List A) (last : A) (are : words ≡ before ++ last ∷ []) where
    texts : map text words ≡ map text before ++ text last ∷ []
    texts = ap (map text) are ∙ map-append text before (last ∷ [])

    pub asks : ends_with end (map text words) ≡ bytes_eq (text last) end
    asks = ap (ends_with end) texts ∙ last_asks (map text before) (text last)

    pub without : bytes_eq (text last) end ≡ true → map text before ≡ without_last end (map text words)
    without so =
        asked (map text words) (map text before) (asks ∙ so)
        (ap (λ (ws : List (List ℕ)). take (length ws - 1) ws) texts ∙ all_but_last (map text before) (text last))

    pub as_before : bytes_eq (text last) end ≡ false → map text words ≡ without_last end (map text words)
    as_before none = unasked (map text words) (asks ∙ none)
