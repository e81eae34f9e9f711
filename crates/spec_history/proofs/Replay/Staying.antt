-- A cause stays, whatever comes after it.
use Rattle.std.proofs.Common.{◌≡◌, ℕ, zero, suc, ◌<◌, ◌≤◌, ◌==◌, ◌&&◌, not, Bool, true, false, nat_lt, is_some, List, [], ◌∷◌, ◌++◌, length, slice_get, Option, Some, None, option_and_then, unwrap_or, if◌then◌else◌, refl, ap, ◌∙◌, inl, inr, arith}
use Rattle.std.specs.Option.{option_or}
use Rattle.std.proofs.lemmas.Bool.{cases_lt, false≢true}
use Rattle.std.proofs.lemmas.List.{length-append}
use Rattle.spec_history.specs.declared.entry.Entry.{Entry}
use Rattle.spec_history.specs.Conflict.{entry_is, passes, is_notice, can_cause, cause_of, next_act}
use Rattle.spec_history.specs.Searches.{first_below}

-- an entry that is there is there in a longer list
pub there : (entries more : List Entry) (k : ℕ) → k < length entries → slice_get (entries ++ more) k ≡ slice_get entries k
there [] more k below = absurd (omega (arith, below))
there (x ∷ xs) more zero below = refl
there (x ∷ xs) more (suc k) below = there xs more k (omega (arith, below))

alike : (n : ℕ) (f g : ℕ → Bool) → ((k : ℕ) → k < n → f k ≡ g k) → first_below n f ≡ first_below n g
unfolding first_below
alike zero f g same = refl
alike (suc n) f g same = rw (alike n f g (λ k below. same k (omega (arith, below))), same n (omega arith)) refl

further : (m n : ℕ) (f : ℕ → Bool) (j : ℕ) → n ≤ m → first_below n f ≡ Some j → first_below m f ≡ Some j
unfolding first_below
further zero n f j most is = let same : zero ≡ n = omega (arith, most) in ap (λ k. first_below k f) same ∙ is
further (suc m) n f j most is = elim (cases_lt m n) [
  | inl past ↦ (let same : suc m ≡ n = omega (arith, most, past) in ap (λ k. first_below k f) same ∙ is)
  | inr within ↦ rw (further m n f j within is) refl
]

or_below : (n j : ℕ) (o : Option ℕ) (b : Bool) → option_or o (if b then Some n else None) ≡ Some j → (o ≡ Some j → j < n) → j < suc n
or_below n j (Some k) b is below = omega (arith, below is)
or_below n j None true is below = omega (arith, ap (λ o. unwrap_or o j) is)
or_below n j None false is below = absurd (false≢true (ap (λ o. is_some o) is))

bounded : (n : ℕ) (f : ℕ → Bool) (j : ℕ) → first_below n f ≡ Some j → j < n
unfolding first_below
bounded zero f j is = absurd (false≢true (ap (λ o. is_some o) is))
bounded (suc n) f j is = or_below n j (first_below n f) (f n) is (bounded n f j)

act_stays : (entries more : List Entry) (place j : ℕ) → next_act entries place ≡ Some j → next_act (entries ++ more) place ≡ Some j
act_stays entries more place j is =
    let f = λ (k : ℕ). nat_lt place k && entry_is entries k (λ entry. not (is_notice entry.what)) in
    let g = λ (k : ℕ). nat_lt place k && entry_is (entries ++ more) k (λ entry. not (is_notice entry.what)) in
    let same : first_below (length entries) g ≡ Some j =
    alike (length entries) g f (λ k below. ap (λ o. nat_lt place k && passes o (λ entry. not (is_notice entry.what))) (there entries more k below)) ∙ is in
    further (length (entries ++ more)) (length entries) g j (omega (arith, length-append entries more)) same

abbrev chosen : ℕ → Bool → Option ℕ
chosen j b = if b then Some j else None

-- it can violate, and is the core's
abbrev does : ℕ → Entry → Bool
does core entry = (entry.by == core) && can_cause entry.what

by_next : (entries more : List Entry) (place core cause : ℕ) (o : Option ℕ) → next_act entries place ≡ o
    → option_and_then (λ j. chosen j (entry_is entries j (does core))) o ≡ Some cause → cause_of (entries ++ more) place core ≡ Some cause
by_next entries more place core cause None next is = absurd (false≢true (ap (λ o. is_some o) is))
by_next entries more place core cause (Some j) next is =
    let below : j < length entries = bounded (length entries) (λ k. nat_lt place k && entry_is entries k (λ entry. not (is_notice entry.what))) j next in
    ap (λ o. option_and_then (λ k. chosen k (entry_is (entries ++ more) k (does core))) o) (act_stays entries more place j next)
    ∙ (ap (λ o. chosen j (passes o (does core))) (there entries more j below) ∙ is)

pub stays : (entries more : List Entry) (place core cause : ℕ) → cause_of entries place core ≡ Some cause → cause_of (entries ++ more) place core ≡ Some cause
stays entries more place core cause is = by_next entries more place core cause (next_act entries place) refl is

some_by : (entries more : List Entry) (place core : ℕ) (o : Option ℕ) → cause_of entries place core ≡ o → is_some o ≡ true → is_some (cause_of (entries ++ more) place core) ≡ true
some_by entries more place core None at is = absurd (false≢true is)
some_by entries more place core (Some cause) at is = ap (λ o. is_some o) (stays entries more place core cause at)

-- a violation that has a cause has one in a longer history
pub stays_some : (entries more : List Entry) (place core : ℕ) → is_some (cause_of entries place core) ≡ true → is_some (cause_of (entries ++ more) place core) ≡ true
stays_some entries more place core is = some_by entries more place core (cause_of entries place core) refl is
