-- Sums over parts.
use Rattle.std.proofs.Common.{◌≡◌, ℕ, ◌+◌, Bool, true, false, cond, List, [], ◌∷◌, Option, Some, None, is_none, count_by, sum_by, refl, sym, ◌∙◌, arith}
use Rattle.std.proofs.lemmas.List.Sums.{sum_by-cons}
use Rattle.spec_history.specs.declared.kind.Kind.{Kind}
use Rattle.spec_history.specs.declared.kind.Kind.TheVariants.{TrueSharing, SilentStore, FalseSharing, FullBuffer, Unexplained}
use Rattle.conflict_findings.specs.declared.rollback.Pair.{Pair}
use Rattle.conflict_findings.specs.declared.rollback.Rollback.{Rollback}
use Rattle.conflict_findings.specs.Parts.{has_pair, is_kind, is_pair}
use Rattle.conflict_findings.proofs.Keyed.{lost_step}

-- ---- the five kinds

five : {X : Type 0} (f a b c d e : X → ℕ) → ((x : X) → f x ≡ a x + b x + c x + d x + e x) → (xs : List X)
    → sum_by f xs ≡ sum_by a xs + sum_by b xs + sum_by c xs + sum_by d xs + sum_by e xs
five f a b c d e each [] = refl
five f a b c d e each (x ∷ xs) =
    omega (arith, sum_by-cons f x xs, sum_by-cons a x xs, sum_by-cons b x xs, sum_by-cons c x xs, sum_by-cons d x xs, sum_by-cons e x xs, each x, five f a b c d e each xs)

-- what a violation of a kind adds
abbrev pub of_kind : (Rollback → ℕ) → Kind → Rollback → ℕ
of_kind weight kind r = cond (is_kind r.kind kind) (weight r) 0

one_kind : (kind : Kind) (w : ℕ)
    → w ≡ cond (is_kind kind TrueSharing) w 0 + cond (is_kind kind SilentStore) w 0 + cond (is_kind kind FalseSharing) w 0 + cond (is_kind kind FullBuffer) w 0 + cond (is_kind kind Unexplained) w 0
one_kind TrueSharing w = omega arith
one_kind SilentStore w = omega arith
one_kind FalseSharing w = omega arith
one_kind FullBuffer w = omega arith
one_kind Unexplained w = omega arith

-- each violation is of one kind
pub kinds_add_up : (weight : Rollback → ℕ) (rs : List Rollback)
    → sum_by weight rs
    ≡ sum_by (of_kind weight TrueSharing) rs + sum_by (of_kind weight SilentStore) rs + sum_by (of_kind weight FalseSharing) rs + sum_by (of_kind weight FullBuffer) rs + sum_by (of_kind weight Unexplained) rs
kinds_add_up weight rs =
    five weight (of_kind weight TrueSharing) (of_kind weight SilentStore) (of_kind weight FalseSharing) (of_kind weight FullBuffer) (of_kind weight Unexplained) (λ r. one_kind r.kind (weight r)) rs

-- ---- pairs that are listed once each

-- the pair stands in the list once, if there is one
abbrev pub IsListed : List Pair → Option Pair → Type 0
IsListed ps None = Unit {0}
IsListed ps (Some q) = count_by (is_pair q) ps ≡ 1

abbrev pub AreListed : List Pair → List Rollback → Type 0
AreListed ps [] = Unit {0}
AreListed ps (r ∷ rs) = IsListed ps r.pair × AreListed ps rs

zeros : (ps : List Pair) → sum_by (λ (p : Pair). 0) ps ≡ 0
zeros [] = refl
zeros (p ∷ ps) = sum_by-cons (λ (x : Pair). 0) p ps ∙ omega (arith, zeros ps)

none_of : (q : Pair) (w : ℕ) (ps : List Pair) → count_by (is_pair q) ps ≡ 0 → sum_by (λ p. cond (is_pair q p) w 0) ps ≡ 0
none_of q w [] is = refl
none_of q w (p ∷ ps) is =
    sum_by-cons (λ x. cond (is_pair q x) w 0) p ps
    ∙ lost_step (is_pair q p) w (count_by (is_pair q) ps) (sum_by (λ x. cond (is_pair q x) w 0) ps) (sym (sum_by-cons (λ x. cond (is_pair q x) 1 0) p ps) ∙ is) (none_of q w ps)

one_step : (b : Bool) (w n s : ℕ) → cond b 1 0 + n ≡ 1 → (n ≡ 0 → s ≡ 0) → (n ≡ 1 → s ≡ w) → cond b w 0 + s ≡ w
one_step true w n s is none one = omega (arith, none (omega (arith, is)))
one_step false w n s is none one = omega (arith, one (omega (arith, is)))

one_of : (q : Pair) (w : ℕ) (ps : List Pair) → count_by (is_pair q) ps ≡ 1 → sum_by (λ p. cond (is_pair q p) w 0) ps ≡ w
one_of q w [] is = absurd (omega (arith, is))
one_of q w (p ∷ ps) is =
    sum_by-cons (λ x. cond (is_pair q x) w 0) p ps
    ∙ one_step (is_pair q p) w (count_by (is_pair q) ps) (sum_by (λ x. cond (is_pair q x) w 0) ps) (sym (sum_by-cons (λ x. cond (is_pair q x) 1 0) p ps) ∙ is) (none_of q w ps) (one_of q w ps)

-- a violation is counted once, at its pair or among those without one
pair_once : (ps : List Pair) (found : Option Pair) (w : ℕ) → IsListed ps found → sum_by (λ p. cond (has_pair found p) w 0) ps + cond (is_none found) w 0 ≡ w
pair_once ps None w is = omega (arith, zeros ps)
pair_once ps (Some q) w is = omega (arith, one_of q w ps is)

exchange : {X Y : Type 0} (g : X → Y → ℕ) (y : Y) (ys : List Y) (xs : List X)
    → sum_by (λ x. sum_by (g x) (y ∷ ys)) xs ≡ sum_by (λ x. g x y) xs + sum_by (λ x. sum_by (g x) ys) xs
exchange g y ys [] = refl
exchange g y ys (x ∷ xs) =
    omega (arith, sum_by-cons (λ z. sum_by (g z) (y ∷ ys)) x xs, sum_by-cons (λ z. g z y) x xs, sum_by-cons (λ z. sum_by (g z) ys) x xs, sum_by-cons (g x) y ys, exchange g y ys xs)

-- what a violation adds to the part of a pair, and to that of those without one
abbrev pub of_pair : (Rollback → ℕ) → Pair → Rollback → ℕ
of_pair weight p r = cond (has_pair r.pair p) (weight r) 0

abbrev pub of_none : (Rollback → ℕ) → Rollback → ℕ
of_none weight r = cond (is_none r.pair) (weight r) 0

pub pairs_add_up : (weight : Rollback → ℕ) (ps : List Pair) (rs : List Rollback) → AreListed ps rs
    → sum_by weight rs ≡ sum_by (λ p. sum_by (of_pair weight p) rs) ps + sum_by (of_none weight) rs
pairs_add_up weight ps [] is = omega (arith, zeros ps)
pairs_add_up weight ps (r ∷ rs) is =
    omega (arith, sum_by-cons weight r rs, exchange (of_pair weight) r rs ps, sum_by-cons (of_none weight) r rs, pair_once ps r.pair (weight r) is.0, pairs_add_up weight ps rs is.1)
