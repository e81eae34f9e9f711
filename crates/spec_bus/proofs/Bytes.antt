-- The loops over the bytes of a line.
use Rattle.std.proofs.Common.{◌≡◌, ◌≢◌, ℕ, nat_eq, ◌+◌, ◌<◌, inl, inr, nat_lt, true, false, List, replicate, length, slice_index, slice_set, refl, sym, ap, ◌∙◌, arith}
use Rattle.std.proofs.lemmas.Bool.{cases_lt}
use Rattle.std.proofs.lemmas.Bool.Decides.{nat_tests}
use Rattle.std.proofs.lemmas.List.{length-set, get_or-replicate, get_or-set_other}
use Rattle.std.proofs.lemmas.Grind.{get_or-set_at}
use Rattle.std.proofs.Math.ListN.{get_or-eq_default}
use Rattle.spec_states.specs.Mask.{longest_line}
use Rattle.bus_states.specs.Bus.{memory_line}

-- the bytes of a line that a loop makes, and how many there are
pub record AreBytes (bytes : List ℕ) (byte : ℕ → ℕ) : Type 0 where
  pub each : (x : ℕ) → slice_index bytes x ≡ byte x
  pub size : length bytes ≡ longest_line

pub zeros : (x : ℕ) → slice_index (replicate longest_line 0) x ≡ 0
zeros x =
    elim (cases_lt x longest_line) [
      | inl below ↦ get_or-replicate longest_line x 0 0 below
      | inr past ↦ get_or-eq_default (replicate longest_line 0) 0 past
    ]

line_byte : (memory : ℕ → ℕ) (line : List ℕ) (addr n : ℕ) → n < length line
    → ((x : ℕ) → slice_index line x ≡ memory_line n memory addr x) → (x : ℕ)
    → slice_index (slice_set line n (memory (addr + n))) x ≡ memory_line (n + 1) memory addr x
line_byte memory line addr n lt h x =
    elim (nat_eq x n) as (λ b. nat_eq x n ≡ b → slice_index (slice_set line n (memory (addr + n))) x ≡ memory_line (n + 1) memory addr x) [
      | true ↦ λ e.
          let at : x ≡ n = grind (arith, nat_tests) in
          let inside : nat_lt x (n + 1) ≡ true = grind (arith, nat_tests) in
          get_or-set_at line n x (memory (addr + n)) 0 at lt ∙ rw inside (ap (λ x. memory (addr + x)) (sym at))
      | false ↦ λ e.
          let away : x ≢ n = grind (arith, nat_tests) in
          let same : nat_lt x (n + 1) ≡ nat_lt x n = grind (arith, nat_tests) in
          get_or-set_other line n x (memory (addr + n)) 0 away ∙ h x ∙ rw same refl
    ] refl

-- a byte more of a line is there
pub line_more : (memory : ℕ → ℕ) (line : List ℕ) (addr n : ℕ) → n < length line
    → AreBytes line (memory_line n memory addr)
    → AreBytes (slice_set line n (memory (addr + n))) (memory_line (n + 1) memory addr)
line_more memory line addr n lt h =
    record { each = λ x. line_byte memory line addr n lt h.each x; size = length-set line n (memory (addr + n)) ∙ h.size }

pub line_start : (memory : ℕ → ℕ) (addr x : ℕ) → 0 ≡ memory_line 0 memory addr x
line_start memory addr x = let out : nat_lt x 0 ≡ false = grind (arith, nat_tests) in rw out refl
