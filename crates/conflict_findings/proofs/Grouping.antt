-- When two numbers are the same, and when two pairs have the same addresses.
use Rattle.std.proofs.Common.{◌≡◌, ℕ, ◌==◌, ◌&&◌, Bool, true, false, nat_lt, refl, sym, ap, ◌∙◌, eq-eqb, eqb-true}
use Rattle.std.proofs.lemmas.Bool.{false_from_ne_true}
use Rattle.std.specs.Ordering.{is_eq, nat_cmp}
use Rattle.memory_bytes.proofs.SmallFacts.{is_eq_by_tests, is_eq_then, less_apart}
use Rattle.conflict_findings.specs.declared.rollback.Pair.{Pair}
use Rattle.conflict_findings.specs.ByPair.{by_addresses}
use Rattle.conflict_findings.specs.Parts.{is_pair}

pub same_number : (a b : ℕ) → is_eq (nat_cmp a b) ≡ (a == b)
same_number a b = is_eq_by_tests (nat_lt a b) (a == b) (less_apart a b)

pub at_pair : (p q : Pair) → is_eq (by_addresses (p.store, p.load) (q.store, q.load)) ≡ is_pair p q
at_pair p q =
    is_eq_then (nat_lt p.store q.store) (p.store == q.store) (nat_cmp p.load q.load) (less_apart p.store q.store)
    ∙ ap (λ b. (p.store == q.store) && b) (same_number p.load q.load)

flip_eq : (a b : ℕ) (t : Bool) → (a == b) ≡ t → (b == a) ≡ t
flip_eq a b true is = eq-eqb b a (sym (eqb-true a b is))
flip_eq a b false is = false_from_ne_true (b == a) (λ same. let so : (a == b) ≡ true = eq-eqb a b (sym (eqb-true b a same)) in absurd cc)

pub flip_pair : (p q : Pair) → is_pair p q ≡ is_pair q p
flip_pair p q =
    sym (ap (λ b. b && (q.load == p.load)) (flip_eq p.store q.store (p.store == q.store) refl) ∙ ap (λ b. (p.store == q.store) && b) (flip_eq p.load q.load (p.load == q.load) refl))
