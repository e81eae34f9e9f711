-- Something beside places, of which those behind the last that was marked have none.
use Rattle.std.proofs.Common.{◌≡◌, ℕ, zero, suc, ◌-◌, ◌<◌, ◌≤◌, List, [], ◌∷◌, ◌++◌, length, replicate, set, slice_index, slice_index_or, refl, sym, ap, ◌∙◌, arith}
use Rattle.std.proofs.lemmas.List.{ext_get_or, length-append, length-replicate, length-set, set-append_left}
use Rattle.dependences.specs.KeptMarks.{filled}

pub none_at : {A : Type 0} (n k : ℕ) (none : A) → slice_index_or (replicate n none) k none ≡ none
none_at zero k none = refl
none_at (suc n) zero none = refl
none_at (suc n) (suc k) none = none_at n k none

pub none_after : {A : Type 0} (items : List A) (n k : ℕ) (none : A) → slice_index_or (items ++ replicate n none) k none ≡ slice_index_or items k none
none_after [] n k none = none_at n k none
none_after (item ∷ items) n zero none = refl
none_after (item ∷ items) n (suc k) none = none_after items n k none

pub filled_long : {A : Type 0} (none : A) (items : List A) (size : ℕ) → length items ≤ size → length (filled none items size) ≡ size
filled_long none items size short =
    let long = length-append items (replicate (size - length items) none) in
    let rest = length-replicate (size - length items) none in omega (arith, long, rest, short)

-- each number is that of the list
pub filled_at : (numbers : List ℕ) (size a : ℕ) → slice_index (filled 0 numbers size) a ≡ slice_index numbers a
filled_at numbers size a = none_after numbers (size - length numbers) a 0

-- a place has another number
pub filled_put : (old mid : List ℕ) (size place number : ℕ) → length old ≤ size → length mid ≤ size → place < length mid → ((a : ℕ) → slice_index mid a ≡ slice_index old a)
    → filled 0 (set mid place number) size ≡ set (filled 0 old size) place number
filled_put old mid size place number short short' there same =
    let long = filled_long 0 old size short in
    let long' = filled_long 0 mid size short' in
    let alike : filled 0 mid size ≡ filled 0 old size = ext_get_or 0 (filled 0 mid size) (filled 0 old size) (long' ∙ sym long) (λ a below. filled_at mid size a ∙ (same a ∙ sym (filled_at old size a))) in
    ap (λ n. set mid place number ++ replicate (size - n) 0) (length-set mid place number)
    ∙ (sym (set-append_left mid (replicate (size - length mid) 0) place number there) ∙ ap (λ (l : List ℕ). set l place number) alike)
