-- The union of two sets of cores.
use Rattle.std.proofs.Common.{◌≡◌, ℕ, ◌+◌, ◌≤◌, ◌==◌, ◌||◌, ◌&&◌, nat_lt, Bool, true, false, refl, sym, ap, ◌∙◌, arith}
use Rattle.std.proofs.lemmas.Bool.Decides.{nat_tests}

pub union_init : (j : ℕ) (first second : Bool) → first ≡ (first || (nat_lt j 0 && second))
union_init j first second = grind (arith, nat_tests)

-- a core of the second set comes in
pub union_more : (n : ℕ) (first second old new : ℕ → Bool) → second n ≡ true → ((k : ℕ) → new k ≡ ((k == n) || old k))
    → ((k : ℕ) → old k ≡ (first k || (nat_lt k n && second k))) → (j : ℕ) → new j ≡ (first j || (nat_lt j (n + 1) && second j))
union_more n first second old new there step before j =
    one (first j) (second j) (old j) (new j) (λ e. ap second e ∙ there) (before j) (step j)
  where
    one : (f s o w : Bool) → (j ≡ n → s ≡ true) → o ≡ (f || (nat_lt j n && s)) → w ≡ ((j == n) || o) → w ≡ (f || (nat_lt j (n + 1) && s))
    one f s o w here before step = grind (arith, nat_tests)

pub union_skip : (n : ℕ) (first second old : ℕ → Bool) → second n ≡ false
    → ((k : ℕ) → old k ≡ (first k || (nat_lt k n && second k))) → (j : ℕ) → old j ≡ (first j || (nat_lt j (n + 1) && second j))
union_skip n first second old absent before j = one (first j) (second j) (old j) (λ e. ap second e ∙ absent) (before j)
  where
    one : (f s o : Bool) → (j ≡ n → s ≡ false) → o ≡ (f || (nat_lt j n && s)) → o ≡ (f || (nat_lt j (n + 1) && s))
    one f s o here before = grind (arith, nat_tests)

-- no core past n is in the second set
pub union_all : (n j : ℕ) (first second both : Bool) → (n ≤ j → second ≡ false)
    → both ≡ (first || (nat_lt j n && second)) → both ≡ (first || second)
union_all n j first second both past h =
    elim (nat_lt j n) as (λ b. nat_lt j n ≡ b → both ≡ (first || (b && second)) → both ≡ (first || second)) [
      | true ↦ λ e g. g
      | false ↦ λ e g.
          let out : n ≤ j = grind (arith, nat_tests) in
          g ∙ ap (λ b. first || b) (sym (past out))
    ] refl h
