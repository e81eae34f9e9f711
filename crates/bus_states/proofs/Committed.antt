-- The committed line is the one that the copies and memory agree on.
use Rattle.std.proofs.Common.{◌≡◌, ℕ, zero, suc, ◌<◌, ◌≤◌, nat_lt, Bool, true, false, cond, refl, arith}
use Rattle.std.proofs.lemmas.Bool.Decides.{nat_tests}
use Rattle.spec_states.specs.Copies.{LineCopy, no_copy, IsUpToDate}
use Rattle.spec_states.specs.States.{is_modified}
use Rattle.spec_states.proofs.CopyLaws.{modified_is}
use Rattle.bus_states.specs.Bus.{committed_among}
use Rattle.bus_states.specs.Coherent.{IsCoherentLine}

below : (f : ℕ → Bool) (n : ℕ) → ((k : ℕ) → k < n → f k ≡ false) → f n ≡ false → (k : ℕ) → k < suc n → f k ≡ false
below f n g e k h = grind (arith, nat_tests)

committed_below : (n : ℕ) (copies : ℕ → LineCopy) (memory c : ℕ → ℕ) (x : ℕ) → ((k : ℕ) → IsUpToDate (copies k) c)
    → (((k : ℕ) → k < n → is_modified (copies k).state ≡ false) → memory x ≡ c x)
    → committed_among n copies memory x ≡ c x
unfolding committed_among
committed_below zero copies memory c x f m = m (λ k h. absurd (omega arith))
committed_below (suc n) copies memory c x f m =
    elim (is_modified (copies n).state) as (λ b. is_modified (copies n).state ≡ b → cond b (copies n).cell (committed_among n copies memory) x ≡ c x) [
      | true ↦ λ e. modified_is (copies n) c (f n) e x
      | false ↦ λ e. committed_below n copies memory c x f (λ g. m (λ k h. below (λ j. is_modified (copies j).state) n g e k h))
    ] refl

no_m : (copies : ℕ → LineCopy) (n : ℕ) → ((k : ℕ) → k < n → is_modified (copies k).state ≡ false)
    → ((k : ℕ) → n ≤ k → copies k ≡ no_copy) → (k : ℕ) → is_modified (copies k).state ≡ false
no_m copies n h none k =
    elim (nat_lt k n) as (λ b. nat_lt k n ≡ b → is_modified (copies k).state ≡ false) [
      | true ↦ λ e. h k (grind (arith, nat_tests))
      | false ↦ λ e. let past : n ≤ k = grind (arith, nat_tests) in rw (none k past) refl
    ] refl

pub committed_is : (n : ℕ) (copies : ℕ → LineCopy) (memory c : ℕ → ℕ) → IsCoherentLine copies memory c
    → ((k : ℕ) → n ≤ k → copies k ≡ no_copy) → (x : ℕ) → committed_among n copies memory x ≡ c x
committed_is n copies memory c h none x =
    committed_below n copies memory c x h.up_to_date (λ g. h.in_memory (no_m copies n g none) x)
