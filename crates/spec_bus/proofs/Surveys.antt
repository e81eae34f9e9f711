-- The loops over the cores of a bus that change nothing.
use Rattle.std.proofs.Common.{◌≡◌, ℕ, ◌+◌, ◌≤◌, ◌==◌, ◌||◌, ◌&&◌, nat_lt, Bool, true, false, cond, List, slice_index, refl, sym, ap, ◌∙◌, arith, add-one}
use Rattle.std.proofs.lemmas.Bool.Decides.{nat_tests}
use Rattle.spec_states.specs.Copies.{LineCopy}
use Rattle.spec_states.specs.States.{is_modified}
use Rattle.bus_states.specs.Bus.{Bus, no_core, some_core, committed_among}
use Rattle.bus_states.proofs.Heard.{absent-unviolated}
use Rattle.bus_states.specs.Messages.{Message, violates, holds_up, remains}
use Rattle.spec_bus.proofs.CommittedMemory.{some-more}

-- the cores below n are surveyed
pub record IsSurveyed (bus : Bus) (message : Message) (n : ℕ) (hurt : ℕ → Bool) (busy shared : Bool) : Type 0 where
  pub hurt_are : (k : ℕ) → hurt k ≡ (nat_lt k n && violates bus message k)
  pub busy_is : busy ≡ some_core n (holds_up bus message)
  pub shared_is : shared ≡ some_core n (remains bus message)

-- one more core in a set, where it passes the test
set-more : (n k : ℕ) (f : ℕ → Bool) (old new : Bool) → old ≡ (nat_lt k n && f k) → new ≡ ((f n && (k == n)) || old)
    → new ≡ (nat_lt k (n + 1) && f k)
set-more n k f old new before step = one (f k) (f n) (λ e. ap f e) before step
  where
    one : (fk fn : Bool) → (k ≡ n → fk ≡ fn) → old ≡ (nat_lt k n && fk) → new ≡ ((fn && (k == n)) || old) → new ≡ (nat_lt k (n + 1) && fk)
    one fk fn same before step = grind (arith, nat_tests)

pub surveyed_more : (bus : Bus) (message : Message) (n : ℕ) (hurt hurt2 : ℕ → Bool) (busy shared violated up stays : Bool)
    → IsSurveyed bus message n hurt busy shared → ((k : ℕ) → hurt2 k ≡ ((violated && (k == n)) || hurt k))
    → violated ≡ violates bus message n → up ≡ holds_up bus message n → stays ≡ remains bus message n
    → IsSurveyed bus message (n + 1) hurt2 (up || busy) (stays || shared)
surveyed_more bus message n hurt hurt2 busy shared violated up stays h step e f g =
    record {
      hurt_are = λ k. set-more n k (violates bus message) (hurt k) (hurt2 k) (h.hurt_are k) (rw e at (step k));
      busy_is = rw (f, h.busy_is) (sym (some-more n (holds_up bus message)));
      shared_is = rw (g, h.shared_is) (sym (some-more n (remains bus message)));
    }

pub surveyed_none : (bus : Bus) (message : Message) (hurt : ℕ → Bool) → ((k : ℕ) → hurt k ≡ false)
    → IsSurveyed bus message 0 hurt false false
unfolding some_core
surveyed_none bus message hurt none =
    record { hurt_are = λ k. none k ∙ sym (below k (violates bus message k)); busy_is = refl; shared_is = refl }
  where
    below : (k : ℕ) (b : Bool) → (nat_lt k 0 && b) ≡ false
    below k b = grind (arith, nat_tests)

-- one more core is asked for an M copy
pub committed_more : (n : ℕ) (copies : ℕ → LineCopy) (memory : ℕ → ℕ) (b : Bool) (found cells line : List ℕ) → b ≡ is_modified (copies n).state
    → ((x : ℕ) → slice_index found x ≡ (copies n).cell x)
    → ((x : ℕ) → slice_index line x ≡ committed_among n copies memory x)
    → cells ≡ cond b found line → (x : ℕ) → slice_index cells x ≡ committed_among (n + 1) copies memory x
unfolding committed_among
committed_more n copies memory true found cells line e f h is x = rw (is, add-one n, ← e) (f x)
committed_more n copies memory false found cells line e f h is x = rw (is, add-one n, ← e) (h x)

pub committed_none : (copies : ℕ → LineCopy) (memory : ℕ → ℕ) (x : ℕ) → memory x ≡ committed_among 0 copies memory x
unfolding committed_among
committed_none copies memory x = refl

-- every core is surveyed
pub surveyed_all : (bus : Bus) (message : Message) (n : ℕ) (hurt : ℕ → Bool) (busy shared : Bool)
    → IsSurveyed bus message n hurt busy shared → ((k : ℕ) → bus.shape.cores ≤ k → bus.core k ≡ no_core) → bus.shape.cores ≤ n
    → (k : ℕ) → hurt k ≡ violates bus message k
surveyed_all bus message n hurt busy shared h absent all k =
    h.hurt_are k
    ∙ elim (nat_lt k n) as (λ b. nat_lt k n ≡ b → (b && violates bus message k) ≡ violates bus message k) [
      | true ↦ λ e. refl
      | false ↦ λ e.
          let past : bus.shape.cores ≤ k = grind (arith, nat_tests) in
          sym (absent-unviolated bus message k (absent k past))
    ] refl
