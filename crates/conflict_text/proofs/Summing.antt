-- The text of the sums.
use Rattle.std.proofs.Common.{◌≡◌, ◌++◌, ◌∙◌, ℕ, List, [], ◌∷◌, append_assoc, ap, refl, Result, Ok, Err, OnOk, is_ok, cond}
use Rattle.std.specs.List.{flat_map}

-- the lines of the same list, told in two ways
pub same_lines : {X : Type 0} (f g : X → List ℕ) → ((x : X) → f x ≡ g x) → (xs : List X) → flat_map f xs ≡ flat_map g xs
same_lines f g each [] = refl
same_lines f g each (x ∷ xs) = ap (λ t. t ++ flat_map f xs) (each x) ∙ ap (λ t. g x ++ t) (same_lines f g each xs)

-- the groups of lines, of which the last are two
pub five_parts : (t0 t1 t2 t3 t4 new a b c d e b' c' d' f g : List ℕ) → t1 ≡ t0 ++ a → t2 ≡ t1 ++ b → t3 ≡ t2 ++ c → t4 ≡ t3 ++ d → new ≡ t4 ++ e
    → b ≡ b' → c ≡ c' → d ≡ d' → e ≡ f ++ g → new ≡ t0 ++ (a ++ b' ++ c' ++ d' ++ f ++ g)
five_parts t0 t1 t2 t3 t4 new a b c d e b' c' d' f g one two three four five same2 same3 same4 same5 =
    five ∙ rw (four, three, two, one, same2, same3, same4, same5) (simp append_assoc)

-- the end of a line, if there was memory for it
pub ended : {A B : Type 0} (r : Result A B) (new old e : List ℕ) → new ≡ cond (is_ok r) (old ++ e) old → OnOk r (new ≡ old ++ e)
ended (Ok x) new old e is = is
ended (Err x) new old e is = tt

-- the line of an attempt that goes on, part by part
pub open_parts : (text first second third new a b c d e : List ℕ) → first ≡ text ++ a → second ≡ first ++ b → third ≡ second ++ (c ++ d) → new ≡ third ++ e → new ≡ text ++ (a ++ b ++ c ++ d ++ e)
open_parts text first second third new a b c d e one two three is = is ∙ rw (three, two, one) (simp append_assoc)
