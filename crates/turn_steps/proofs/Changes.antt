-- A text that is as it was.
use Rattle.std.proofs.Common.{◌≡◌, ℕ, Bool, List, [], ◌++◌, if◌then◌else◌, refl, sym, subst}
use Rattle.std.proofs.lemmas.List.{append-nil}
use Rattle.std.proofs.lemmas.Slice.Eq.{bytes_eq-Decides}
use Rattle.turn_steps.specs.Places.{changed}

pub changed-same : (text line : List ℕ) → text ≡ text ++ changed line line
changed-same text line =
    subst (λ (b : Bool). text ≡ text ++ (if b then [] else line)) (sym ((bytes_eq-Decides line line).1 refl)) (sym (append-nil text))

-- nothing is added for a line that is the one that was there
pub unchanged_line : {A : Type 0} (line : A → List ℕ) (text : List ℕ) (old now : A) → old ≡ now → text ≡ text ++ changed (line old) (line now)
unchanged_line line text old now same = subst (λ n. text ≡ text ++ changed (line old) (line n)) same (changed-same text (line old))

-- nor is there one in it
pub no_change : (line : List ℕ) → changed line line ≡ []
no_change line = subst (λ (b : Bool). (if b then [] else line) ≡ []) (sym ((bytes_eq-Decides line line).1 refl)) refl
