-- The way that a line takes.
use Rattle.std.proofs.Common.{◌≡◌, ℕ, ◌+◌, ◌<◌, true, false, not, IfSome, IfNone, Option, Some, None, inl, inr, refl, sym, ap, ◌∙◌, arith}
use Rattle.std.proofs.lemmas.Bool.{cases_eq, not-false, not-true}
use Rattle.std.specs.Bool.{then_some}
use Rattle.std.specs.List.{find, range_with_len}
use Rattle.std.specs.Option.{option_or}
use Rattle.spec_states.specs.States.{is_valid, is_speculative}
use Rattle.spec_states.proofs.RowLaws.{invalid-unmarked}
use Rattle.cache_lines.specs.declared.line.Line.{Line}
use Rattle.cache_lines.specs.Changes.{is_invalid, is_unmarked, victim_of}
use Rattle.cache_lines.specs.Lines.{Contents, line_in, lowest_way}
use Rattle.cache_lines.proofs.Firsts.{first_is, none_is, found_first, found_none, find_more}

-- the way that a line takes is one that carries no marks
pub victim-unmarked : (cache : Contents) (addr : ℕ)
    → IfSome (victim_of cache addr) (λ way. (way < cache.geometry.ways) × (is_speculative (line_in cache addr way).state ≡ false))
victim-unmarked cache addr = pick (lowest_way is_invalid cache addr) (lowest_way is_unmarked cache addr) refl refl
  where
    pick : (o p : Option ℕ) → lowest_way is_invalid cache addr ≡ o → lowest_way is_unmarked cache addr ≡ p
        → IfSome (option_or o p) (λ way. (way < cache.geometry.ways) × (is_speculative (line_in cache addr way).state ≡ false))
    pick (Some w) p e f =
        let h = found_first 0 cache.geometry.ways (λ v. is_invalid (line_in cache addr v)) w e in
        (omega (arith, h.below), invalid-unmarked (line_in cache addr w).state (not-true _ h.passes))
    pick None (Some w) e f =
        let h = found_first 0 cache.geometry.ways (λ v. is_unmarked (line_in cache addr v)) w f in
        (omega (arith, h.below), not-true _ h.passes)
    pick None None e f = tt

-- where no way is for it, all carry marks
pub victim-full : (cache : Contents) (addr : ℕ)
    → IfNone (victim_of cache addr) ((way : ℕ) → way < cache.geometry.ways → is_speculative (line_in cache addr way).state ≡ true)
victim-full cache addr = pick (lowest_way is_invalid cache addr) (lowest_way is_unmarked cache addr) refl
  where
    pick : (o p : Option ℕ) → lowest_way is_unmarked cache addr ≡ p
        → IfNone (option_or o p) ((way : ℕ) → way < cache.geometry.ways → is_speculative (line_in cache addr way).state ≡ true)
    pick (Some w) p f = tt
    pick None (Some w) f = tt
    pick None None f = λ w lt. not-false _ (found_none 0 cache.geometry.ways (λ v. is_unmarked (line_in cache addr v)) f w (omega arith) (omega (arith, lt)))

-- ---- the loop over the ways

-- of the ways below n, whose lines these are, none is invalid, and this is the lowest unmarked one
pub record IsPassed (line : ℕ → Line) (n : ℕ) (unmarked : Option ℕ) : Type 0 where
  pub valid : (v : ℕ) → v < n → is_invalid (line v) ≡ false
  pub lowest : unmarked ≡ find (λ v. is_unmarked (line v)) (range_with_len 0 n)

-- one way more
pub passed_more : (line : ℕ → Line) (n : ℕ) (unmarked : Option ℕ) → IsPassed line n unmarked → is_invalid (line n) ≡ false
    → IsPassed line (n + 1) (option_or unmarked (then_some (is_unmarked (line n)) n))
passed_more line n unmarked h valid =
    record {
      valid = λ v lt. elim (cases_eq v n) [
        | inl e ↦ ap (λ v. is_invalid (line v)) e ∙ valid
        | inr other ↦ h.valid v (omega (arith, lt, other))
      ];
      lowest =
          ap (λ o. option_or o (then_some (is_unmarked (line n)) n)) h.lowest
          ∙ sym (find_more n (λ v. is_unmarked (line v)));
    }

-- the first invalid way is the victim
pub victim-invalid : (cache : Contents) (addr n : ℕ) (unmarked : Option ℕ) → IsPassed (line_in cache addr) n unmarked
    → n < cache.geometry.ways → is_valid (line_in cache addr n).state ≡ false → victim_of cache addr ≡ Some n
victim-invalid cache addr n unmarked h lt invalid =
    ap (λ o. option_or o (lowest_way is_unmarked cache addr))
    (first_is 0 cache.geometry.ways (λ v. is_invalid (line_in cache addr v)) n (record {
      from = omega arith;
      below = omega (arith, lt);
      passes = ap not invalid;
      first = λ v _ before. h.valid v before;
    }))

-- where no way is invalid, the first unmarked one is
pub victim-valid : (cache : Contents) (addr n : ℕ) (unmarked : Option ℕ) → IsPassed (line_in cache addr) n unmarked
    → n ≡ cache.geometry.ways → victim_of cache addr ≡ unmarked
victim-valid cache addr n unmarked h all =
    ap (λ o. option_or o (lowest_way is_unmarked cache addr))
    (none_is 0 cache.geometry.ways (λ v. is_invalid (line_in cache addr v)) (λ v _ lt. h.valid v (omega (arith, lt, all))))
    ∙ (ap (λ n. find (λ v. is_unmarked (line_in cache addr v)) (range_with_len 0 n)) (sym all) ∙ sym h.lowest)
