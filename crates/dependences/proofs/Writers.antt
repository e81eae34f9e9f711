-- The last writers of bytes, and the least distance to them.
use Rattle.std.proofs.Common.{◌≡◌, ◌≢◌, ◌⊎◌, ℕ, zero, suc, ◌+◌, ◌-◌, ◌<◌, ◌≤◌, ◌==◌, ◌||◌, nat_lt, Bool, true, false, cond, List, length, set, slice_index, Option, Some, None, refl, sym, ap, ◌∙◌, inl, inr, arith, get_or-set_same, get_or-set_other}
use Rattle.std.proofs.lemmas.Bool.{cases_eq, or_parts}
use Rattle.std.proofs.lemmas.Bool.Decides.{nat_tests}
use Rattle.epoch_paths.specs.Kept.{IsMarked}
use Rattle.dependences.specs.Kept.{IsLeast, behind, load_behind, nearer}

-- ---- the least of numbers

-- where the numbers of one kind are of the other, and each of the other has one of the first below it
pub least_so : (P Q : ℕ → Type 0) → ((k : ℕ) → P k → Q k) → ((k : ℕ) → Q k → (j : ℕ) × (j ≤ k) × P j) → (o : Option ℕ) → IsLeast P o → IsLeast Q o
least_so P Q to back None least = λ k q. least (back k q).0 (back k q).2
least_so P Q to back (Some n) least =
    (to n least.0, λ k q. let low = back k q in let most = least.1 low.0 low.2 in omega (arith, most, low.1))

pub least_some : (o : Option ℕ) → IsLeast (λ k. o ≡ Some k) o
least_some None = λ k is. cc
least_some (Some n) = (refl, λ k is. let same : n ≡ k = cc in omega (arith, same))

least_of : (P Q : ℕ → Type 0) (n m k : ℕ) → n < m → ((j : ℕ) → P j → n ≤ j) → ((j : ℕ) → Q j → m ≤ j) → P k ⊎ Q k → n ≤ k
least_of P Q n m k less one other (inl p) = one k p
least_of P Q n m k less one other (inr q) = let most = other k q in omega (arith, less, most)

most_of : (P Q : ℕ → Type 0) (n m k : ℕ) → m ≤ n → ((j : ℕ) → P j → n ≤ j) → ((j : ℕ) → Q j → m ≤ j) → P k ⊎ Q k → m ≤ k
most_of P Q n m k less one other (inl p) = let most = one k p in omega (arith, less, most)
most_of P Q n m k less one other (inr q) = other k q

least_first : (P Q : ℕ → Type 0) (n m : ℕ) (b : Bool) → nat_lt n m ≡ b → IsLeast P (Some n) → IsLeast Q (Some m) → IsLeast (λ k. P k ⊎ Q k) (Some (cond b n m))
least_first P Q n m true less one other = (inl one.0, λ k either. least_of P Q n m k (grind (arith, nat_tests)) one.1 other.1 either)
least_first P Q n m false less one other = (inr other.0, λ k either. most_of P Q n m k (grind (arith, nat_tests)) one.1 other.1 either)

only_first : (P Q : ℕ → Type 0) (n k : ℕ) → ((j : ℕ) → P j → n ≤ j) → ((j : ℕ) → Q j → ⊥) → P k ⊎ Q k → n ≤ k
only_first P Q n k one none (inl p) = one k p
only_first P Q n k one none (inr q) = absurd (none k q)

only_second : (P Q : ℕ → Type 0) (n k : ℕ) → ((j : ℕ) → P j → ⊥) → ((j : ℕ) → Q j → n ≤ j) → P k ⊎ Q k → n ≤ k
only_second P Q n k none one (inl p) = absurd (none k p)
only_second P Q n k none one (inr q) = one k q

neither_one : (P Q : ℕ → Type 0) (k : ℕ) → ((j : ℕ) → P j → ⊥) → ((j : ℕ) → Q j → ⊥) → P k ⊎ Q k → ⊥
neither_one P Q k none none' (inl p) = none k p
neither_one P Q k none none' (inr q) = none' k q

pub least_nearer : (P Q : ℕ → Type 0) (o o' : Option ℕ) → IsLeast P o → IsLeast Q o' → IsLeast (λ k. P k ⊎ Q k) (nearer o o')
least_nearer P Q (Some n) (Some m) one other = least_first P Q n m (nat_lt n m) refl one other
least_nearer P Q (Some n) None one none = (inl one.0, λ k either. only_first P Q n k one.1 none either)
least_nearer P Q None (Some m) none other = (inr other.0, λ k either. only_second P Q m k none other.1 either)
least_nearer P Q None None none none' = λ k either. neither_one P Q k none none' either

-- ---- the bytes of a load

-- a byte of these has been written last this far before
pub record IsBehind (writers : List ℕ) (epoch address width k : ℕ) : Type 0 where
  pub i : ℕ
  pub within : i < width
  pub far : behind epoch (slice_index writers (address + i)) ≡ Some k

load_to : (P : ℕ → Type 0) (writers : List ℕ) (epoch address width k : ℕ)
    → (P k ⊎ IsBehind writers epoch address width k) ⊎ (behind epoch (slice_index writers (address + width)) ≡ Some k) → P k ⊎ IsBehind writers epoch address (suc width) k
load_to P writers epoch address width k (inl (inl p)) = inl p
load_to P writers epoch address width k (inl (inr q)) = let within = q.within in inr (record { i = q.i; within = omega (arith, within); far = q.far })
load_to P writers epoch address width k (inr here) = inr (record { i = width; within = omega arith; far = here })

load_back : (P : ℕ → Type 0) (writers : List ℕ) (epoch address width k : ℕ) → P k ⊎ IsBehind writers epoch address (suc width) k
    → (P k ⊎ IsBehind writers epoch address width k) ⊎ (behind epoch (slice_index writers (address + width)) ≡ Some k)
load_back P writers epoch address width k (inl p) = inl (inl p)
load_back P writers epoch address width k (inr q) = elim (cases_eq q.i width) [
  | inl e ↦ inr (sym (ap (λ i. behind epoch (slice_index writers (address + i))) e) ∙ q.far)
  | inr other ↦ (let within = q.within in inl (inr (record { i = q.i; within = omega (arith, within, other); far = q.far })))
]

no_bytes : (P : ℕ → Type 0) (writers : List ℕ) (epoch address k : ℕ) → P k ⊎ IsBehind writers epoch address 0 k → P k
no_bytes P writers epoch address k (inl p) = p
no_bytes P writers epoch address k (inr q) = let within = q.within in absurd (omega (arith, within))

pub load_least : (P : ℕ → Type 0) (writers : List ℕ) (epoch address : ℕ) (o : Option ℕ) → IsLeast P o → (width : ℕ)
    → IsLeast (λ k. P k ⊎ IsBehind writers epoch address width k) (load_behind writers epoch address width o)
unfolding load_behind
load_least P writers epoch address o least zero =
    least_so P (λ k. P k ⊎ IsBehind writers epoch address 0 k) (λ k p. inl p) (λ k either. (k, omega arith, no_bytes P writers epoch address k either)) o least
load_least P writers epoch address o least (suc width) =
    let front = load_least P writers epoch address o least width in
    least_so (λ k. (P k ⊎ IsBehind writers epoch address width k) ⊎ (behind epoch (slice_index writers (address + width)) ≡ Some k))
    (λ k. P k ⊎ IsBehind writers epoch address (suc width) k)
    (λ k either. load_to P writers epoch address width k either) (λ k either. (k, omega arith, load_back P writers epoch address width k either))
    (nearer (load_behind writers epoch address width o) (behind epoch (slice_index writers (address + width))))
    (least_nearer (λ k. P k ⊎ IsBehind writers epoch address width k) (λ k. behind epoch (slice_index writers (address + width)) ≡ Some k)
    (load_behind writers epoch address width o) (behind epoch (slice_index writers (address + width))) front
    (least_some (behind epoch (slice_index writers (address + width)))))

pub load_more : (writers : List ℕ) (epoch address width : ℕ) (o : Option ℕ)
    → load_behind writers epoch address (suc width) o ≡ nearer (load_behind writers epoch address width o) (behind epoch (slice_index writers (address + width)))
unfolding load_behind
load_more writers epoch address width o = refl

pub load_none : (writers : List ℕ) (epoch address : ℕ) (o : Option ℕ) → o ≡ load_behind writers epoch address 0 o
unfolding load_behind
load_none writers epoch address o = refl

-- what a distance says of the writer
behind_by : (epoch writer k : ℕ) (b : Bool) → ((writer == 0) || (writer == epoch + 1)) ≡ b → cond b None (Some (epoch + 1 - writer)) ≡ Some k
    → (writer ≢ 0) × (writer ≢ epoch + 1) × (k ≡ epoch + 1 - writer)
behind_by epoch writer k true tests is = absurd cc
behind_by epoch writer k false tests is =
    let parts = or_parts (writer == 0) (writer == epoch + 1) tests in (grind (arith, nat_tests), grind (arith, nat_tests), cc)

pub behind_is : (epoch writer k : ℕ) → behind epoch writer ≡ Some k → (writer ≢ 0) × (writer ≢ epoch + 1) × (k ≡ epoch + 1 - writer)
behind_is epoch writer k is = behind_by epoch writer k ((writer == 0) || (writer == epoch + 1)) refl is

behind_some : (epoch writer : ℕ) (b : Bool) → ((writer == 0) || (writer == epoch + 1)) ≡ b → writer ≢ 0 → writer ≢ epoch + 1
    → cond b None (Some (epoch + 1 - writer)) ≡ Some (epoch + 1 - writer)
behind_some epoch writer true tests some other = absurd (grind (arith, nat_tests))
behind_some epoch writer false tests some other = refl

pub is_behind : (epoch writer : ℕ) → writer ≢ 0 → writer ≢ epoch + 1 → behind epoch writer ≡ Some (epoch + 1 - writer)
is_behind epoch writer some other = behind_some epoch writer ((writer == 0) || (writer == epoch + 1)) refl some other

-- ---- the bytes of a store

pub marked_more : (old new : List ℕ) (address i writer : ℕ) → address + i < length new → IsMarked old new address i writer
    → IsMarked old (set new (address + i) writer) address (i + 1) writer
marked_more old new address i writer within marked = record {
  here = λ a from below. elim (cases_eq a (address + i)) [
    | inl e ↦ ap (λ b. slice_index (set new (address + i) writer) b) e ∙ get_or-set_same new (address + i) writer 0 within
    | inr other ↦ get_or-set_other new (address + i) a writer 0 other ∙ marked.here a from (omega (arith, below, other))
  ];
  below = λ a low. let other : a ≢ address + i = omega (arith, low) in get_or-set_other new (address + i) a writer 0 other ∙ marked.below a low;
  past = λ a high. let other : a ≢ address + i = omega (arith, high) in get_or-set_other new (address + i) a writer 0 other ∙ marked.past a (omega (arith, high));
}
