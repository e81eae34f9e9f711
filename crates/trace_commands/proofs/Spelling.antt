-- What words come to before and behind the first `--apart`.
use Rattle.std.proofs.Common.{◌≡◌, ◌++◌, ℕ, List, map, take, drop, sym, ap, refl, ◌∙◌}
use Rattle.std.proofs.lemmas.List.{take-append-drop}
use Rattle.std.specs.List.{drop-map, take-map}
use Rattle.trace_commands.specs.Apart.{apart_place, spelled, spelled_at, spelled_with}

spelled_by : (words : List (List ℕ)) → spelled words ≡ spelled_at (take (apart_place words) words) (drop (apart_place words) words)
unfolding spelled
spelled_by words = refl

before_is : {A : Type 0} (text : A → List ℕ) (words before : List A) (place : ℕ) → place ≡ apart_place (map text words) → before ≡ take place words
    → map text before ≡ take (apart_place (map text words)) (map text words)
before_is text words before place at front = ap (map text) front ∙ (sym (take-map text place words) ∙ ap (λ n. take n (map text words)) at)

behind_is : {A : Type 0} (text : A → List ℕ) (words behind : List A) (place : ℕ) → place ≡ apart_place (map text words) → behind ≡ drop place words
    → map text behind ≡ drop (apart_place (map text words)) (map text words)
behind_is text words behind place at back = ap (map text) back ∙ (sym (drop-map text place words) ∙ ap (λ n. drop n (map text words)) at)

parts : {A : Type 0} (text : A → List ℕ) (words before behind : List A) (place : ℕ) → place ≡ apart_place (map text words) → before ≡ take place words → behind ≡ drop place words
    → spelled (map text words) ≡ spelled_at (map text before) (map text behind)
parts text words before behind place at front back =
    spelled_by (map text words)
    ∙ (ap (λ ws. spelled_at ws (drop (apart_place (map text words)) (map text words))) (sym (before_is text words before place at front))
    ∙ ap (spelled_at (map text before)) (sym (behind_is text words behind place at back)))

-- the two are there
pub with_value : {A : Type 0} (text : A → List ℕ) (words before behind : List A) (place : ℕ) → place ≡ apart_place (map text words) → before ≡ take place words → behind ≡ drop place words
    → (apart : List ℕ) (rest : List (List ℕ)) → ((some : List (List ℕ)) → spelled_at some (map text behind) ≡ spelled_with apart some rest)
    → spelled (map text words) ≡ spelled_with apart (map text before) rest
with_value text words before behind place at front back apart rest is = parts text words before behind place at front back ∙ is (map text before)

-- they aren't
pub without_value : {A : Type 0} (text : A → List ℕ) (words before behind : List A) (place : ℕ) → place ≡ apart_place (map text words) → before ≡ take place words → behind ≡ drop place words
    → ((some : List (List ℕ)) → spelled_at some (map text behind) ≡ some ++ map text behind)
    → spelled (map text words) ≡ map text words
without_value text words before behind place at front back is =
    parts text words before behind place at front back ∙ (is (map text before)
    ∙ (ap (λ ws. ws ++ map text behind) (before_is text words before place at front)
    ∙ (ap (λ ws. take (apart_place (map text words)) (map text words) ++ ws) (behind_is text words behind place at back)
    ∙ take-append-drop (apart_place (map text words)) (map text words))))
