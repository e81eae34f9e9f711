-- Counts of pasts.
use Rattle.std.proofs.Common.{◌≡◌, ℕ, suc, ◌+◌, ◌≤◌, Bool, true, false, cond, List, [], ◌∷◌, ◌++◌, length, refl, sym, ap, ◌∙◌, subst, arith}
use Rattle.std.proofs.lemmas.Bool.Decides.{nat_tests}
use native.Mathlib.Decide.{dec_le}
use Rattle.run_ledger.specs.declared.counts.Counts.{Counts}
use Rattle.run_ledger.specs.Counts.{no_counts, sum_of, IsAtMost}
use Rattle.spec_history.specs.declared.entry.Entry.{Entry}
use Rattle.spec_history.specs.declared.entry.What.{What}
use Rattle.spec_history.specs.Replay.{count_of, counts_of}
use Rattle.ticket_lock.specs.Past.{is_of, entries_of}
use Rattle.homefree.specs.Counted.{as_counts, counted_in, IsNoMore}
use Rattle.homefree.specs.LockView.{past_of, history_of}
use Rattle.homefree.proofs.Books.Tallies.{few_counts}
use Rattle.core_threads.specs.Passes.{counts_in}

counts_same : (a b c d e f g h : ℕ) → a ≡ b → c ≡ d → e ≡ f → g ≡ h
    → (let x : Counts = record { loads = a; stores = c; restarts = e; commits = g } in let y : Counts = record { loads = b; stores = d; restarts = f; commits = h } in x ≡ y)
counts_same a b c d e f g h p q r s = λ i. record { loads = p i; stores = q i; restarts = r i; commits = s i }

pub sum_none : (a : Counts) → a ≡ sum_of no_counts a
sum_none a = counts_same a.loads _ a.stores _ a.restarts _ a.commits _ (omega arith) (omega arith) (omega arith) (omega arith)

sum_turns : (a b c : Counts) → sum_of a (sum_of b c) ≡ sum_of (sum_of a b) c
sum_turns a b c = counts_same _ _ _ _ _ _ _ _ (omega arith) (omega arith) (omega arith) (omega arith)

sum_swaps : (a b c : Counts) → sum_of a (sum_of b c) ≡ sum_of b (sum_of a c)
sum_swaps a b c = counts_same _ _ _ _ _ _ _ _ (omega arith) (omega arith) (omega arith) (omega arith)

abbrev Past : Type 0
Past = List (ℕ × What)

-- what one entry counts
abbrev one : ℕ × What → Counts
one e = as_counts (count_of e.1)

counts-none : counts_in [] ≡ no_counts
unfolding counts_of
counts-none = refl

counts-cons : (e : ℕ × What) (es : Past) → counts_in (e ∷ es) ≡ sum_of (one e) (counts_in es)
unfolding counts_of
counts-cons e es = refl

-- the counts of two pasts, one after the other
pub counts-append : (a b : Past) → counts_in (a ++ b) ≡ sum_of (counts_in a) (counts_in b)
counts-append [] b = sum_none (counts_in b) ∙ ap (λ c. sum_of c (counts_in b)) (sym counts-none)
counts-append (e ∷ es) b =
    counts-cons e (es ++ b) ∙ (ap (sum_of (one e)) (counts-append es b) ∙ (sum_turns (one e) (counts_in es) (counts_in b) ∙ ap (λ c. sum_of c (counts_in b)) (sym (counts-cons e es))))

pub history-length : (past : Past) → length (history_of past) ≡ length past
history-length [] = refl
history-length (e ∷ es) = ap suc (history-length es)

-- no count of a past is above its length
pub few_in : (past : Past) → IsAtMost (length past) (counts_in past)
few_in past = subst (λ n. IsAtMost n (counts_in past)) (history-length past) (few_counts (history_of past))

none_no_more : (c : Counts) → IsNoMore c c
none_no_more c = record { loads = omega arith; stores = omega arith; restarts = omega arith; commits = omega arith }

more_both : (e a b : Counts) → IsNoMore a b → IsNoMore (sum_of e a) (sum_of e b)
more_both e a b less = let l = less.loads in let s = less.stores in let r = less.restarts in let c = less.commits in
    record { loads = omega arith; stores = omega arith; restarts = omega arith; commits = omega arith }

more_one : (e a b : Counts) → IsNoMore a b → IsNoMore a (sum_of e b)
more_one e a b less = let l = less.loads in let s = less.stores in let r = less.restarts in let c = less.commits in
    record { loads = omega arith; stores = omega arith; restarts = omega arith; commits = omega arith }

no_more_at : (a b c d : Counts) → a ≡ c → b ≡ d → IsNoMore c d → IsNoMore a b
no_more_at a b c d p q less = subst (λ (t : Counts × Counts). IsNoMore t.0 t.1) (λ i. (sym p i, sym q i)) less

taken : (lo hi : ℕ) (e : ℕ × What) (es : Past) → IsNoMore (counts_in (entries_of lo hi es)) (counts_in es)
    → (b : Bool) → IsNoMore (counts_in (cond b (e ∷ entries_of lo hi es) (entries_of lo hi es))) (counts_in (e ∷ es))
taken lo hi e es less true = no_more_at _ _ _ _ (counts-cons e (entries_of lo hi es)) (counts-cons e es) (more_both (one e) _ _ less)
taken lo hi e es less false = no_more_at _ _ _ _ refl (counts-cons e es) (more_one (one e) _ _ less)

-- what is taken out of a past counts no more
pub own_no_more : (lo hi : ℕ) (past : Past) → IsNoMore (counts_in (entries_of lo hi past)) (counts_in past)
own_no_more lo hi [] = none_no_more (counts_in [])
own_no_more lo hi (e ∷ es) = taken lo hi e es (own_no_more lo hi es) (is_of lo hi e)

-- a range in two parts
pub counts_of_both : (lo mid hi : ℕ) → lo ≤ mid → mid ≤ hi → (past : Past)
    → counts_in (entries_of lo hi past) ≡ sum_of (counts_in (entries_of lo mid past)) (counts_in (entries_of mid hi past))
counts_of_both lo mid hi a b [] = sum_none (counts_in []) ∙ ap (λ c. sum_of c (counts_in [])) (sym counts-none)
counts_of_both lo mid hi a b (e ∷ es) =
    let ih = counts_of_both lo mid hi a b es in
    let c = one e in
    let L = entries_of lo mid es in let R = entries_of mid hi es in let A = entries_of lo hi es in
    let G : Bool → Bool → Bool → Type 0 = λ x y z. counts_in (cond x (e ∷ A) A) ≡ sum_of (counts_in (cond y (e ∷ L) L)) (counts_in (cond z (e ∷ R) R)) in
    let pick : (x y z x' y' z' : Bool) → x ≡ x' → y ≡ y' → z ≡ z' → G x' y' z' → G x y z = λ x y z x' y' z' p q r g. subst (λ (t : Bool × Bool × Bool). G t.0 t.1 t.2) (λ i. (sym p i, sym q i, sym r i)) g in
    let right : G true false true = counts-cons e A ∙ (ap (sum_of c) ih ∙ (sum_swaps c (counts_in L) (counts_in R) ∙ ap (sum_of (counts_in L)) (sym (counts-cons e R)))) in
    let left : G true true false = counts-cons e A ∙ (ap (sum_of c) ih ∙ (sum_turns c (counts_in L) (counts_in R) ∙ ap (λ x. sum_of x (counts_in R)) (sym (counts-cons e L)))) in
    elim (dec_le mid e.0) [
      | yes up ↦ elim (dec_le (e.0 + 1) hi) [
        | yes in' ↦ pick _ _ _ true false true (grind (arith, nat_tests)) (grind (arith, nat_tests)) (grind (arith, nat_tests)) right
        | no out ↦ pick _ _ _ false false false (grind (arith, nat_tests)) (grind (arith, nat_tests)) (grind (arith, nat_tests)) ih
      ]
      | no down ↦ elim (dec_le lo e.0) [
        | yes in' ↦ pick _ _ _ true true false (grind (arith, nat_tests)) (grind (arith, nat_tests)) (grind (arith, nat_tests)) left
        | no out ↦ pick _ _ _ false false false (grind (arith, nat_tests)) (grind (arith, nat_tests)) (grind (arith, nat_tests)) ih
      ]
    ]

-- ---- a history, and its past

pub history-past : (history : List Entry) → history_of (past_of history) ≡ history
history-past [] = refl
history-past (e ∷ es) = ap (λ l. e ∷ l) (history-past es)

pub past-length : (history : List Entry) → length (past_of history) ≡ length history
past-length [] = refl
past-length (e ∷ es) = ap suc (past-length es)

pub past-append : (a b : List Entry) → past_of (a ++ b) ≡ past_of a ++ past_of b
past-append [] b = refl
past-append (e ∷ es) b = ap (λ l. (e.by, e.what) ∷ l) (past-append es b)

pub counts-past : (history : List Entry) → counts_in (past_of history) ≡ counted_in history
counts-past history = ap (λ h. counted_in h) (history-past history)
