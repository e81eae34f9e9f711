-- What a change of every line does to the lines that a cache holds.
use Rattle.std.proofs.Common.{Option, option_map, ◌≡◌, ℕ, ◌<◌, ◌==◌, ◌&&◌, Bool, true, false, cond, Some, None, inl, inr, refl, ap, ◌∙◌, arith}
use Rattle.std.proofs.lemmas.Bool.{cases_eq, and_right}
use Rattle.std.proofs.lemmas.Bool.Decides.{nat_tests}
use Rattle.std.proofs.lemmas.List.{get_or-map, length-map}
use Rattle.std.proofs.lemmas.Nat.{pow_pos}
use Rattle.spec_states.specs.States.{is_valid}
use Rattle.spec_states.proofs.RowLaws.{violation-rolls_back, settlement-settles}
use Rattle.cache_lines.specs.declared.line.Line.{Line}
use Rattle.cache_lines.specs.Lines.{Contents, place, invalid_line, line_in, is_copy_of, held_line}
use Rattle.cache_lines.specs.Placed.{IsPlaced, FitsLength}
use Rattle.cache_lines.specs.Changes.{rolled_back_line, published_line, with_each_line}
use Rattle.cache_lines.proofs.LineLaws.{IsPlaced-once, place-lt, by_way, held_here, held_none}

-- a change that leaves each line's address, and revives none
pub record KeepsAddresses (change : Line → Line) : Type 0 where
  pub addr : (line : Line) → (change line).addr ≡ line.addr
  pub no_revival : (line : Line) → is_valid (change line).state ≡ true → is_valid line.state ≡ true
  -- and leaves nothing past the line length
  pub fits : (n : ℕ) (line : Line) → is_valid (change line).state ≡ true → FitsLength n line → FitsLength n (change line)

-- a changed line is a copy where it was one and is still valid
is_copy_of-changed : (change : Line → Line) → KeepsAddresses change → (line : Line) (x : ℕ)
    → is_copy_of (change line) x ≡ (is_valid (change line).state && is_copy_of line x)
is_copy_of-changed change h line x =
    test (is_valid (change line).state) (is_valid line.state) (change line).addr line.addr (h.addr line)
    (h.no_revival line)
  where
    test : (v w : Bool) (m n : ℕ) → m ≡ n → (v ≡ true → w ≡ true) → (v && (m == x)) ≡ (v && (w && (n == x)))
    test v w m n e up = grind (arith, nat_tests)

-- the line that is held, where each line of the cache is changed so
abbrev pub changed_held : (Line → Line) → Option Line → Option Line
changed_held change None = None
changed_held change (Some line) = cond (is_valid (change line).state) (Some (change line)) None

-- a way of the changed lines
pub line_in-each : (change : Line → Line) (cache : Contents) → IsPlaced cache → (addr way : ℕ) → way < cache.geometry.ways
    → line_in (with_each_line change cache) addr way ≡ change (line_in cache addr way)
line_in-each change cache h addr way way_way =
    get_or-map change cache.lines (place cache addr way) invalid_line invalid_line (rw h.size (place-lt cache h.geometry_is addr way way_way))

-- the lines stay in their places where every line is changed
pub IsPlaced-each : (change : Line → Line) → KeepsAddresses change → (cache : Contents) → IsPlaced cache
    → IsPlaced (with_each_line change cache)
IsPlaced-each change h cache placed =
    record {
      length_is = placed.length_is;
      geometry_is = placed.geometry_is;
      size = length-map cache.lines change ∙ placed.size;
      aligned =
          λ a w w_way. rw (line_in-each change cache placed a w w_way)
          (λ v. rw (h.addr (line_in cache a w)) (placed.aligned a w w_way (h.no_revival (line_in cache a w) v)));
      in_set =
          λ a w w_way. rw (line_in-each change cache placed a w w_way)
          (λ v. rw (h.addr (line_in cache a w)) (placed.in_set a w w_way (h.no_revival (line_in cache a w) v)));
      once =
          λ a w w_way. rw (line_in-each change cache placed a w w_way)
          (λ v. rw (h.addr (line_in cache a w))
          (λ other other_way apart.
          let addr : ℕ = (line_in cache a w).addr in
          rw (
            line_in-each change cache placed addr other other_way,
            is_copy_of-changed change h (line_in cache addr other) addr,
            placed.once a w w_way (h.no_revival (line_in cache a w) v) other other_way apart,
          )
          (and_right (is_valid (change (line_in cache (line_in cache a w).addr other)).state) false refl)));
      fits =
          λ a w w_way. rw (line_in-each change cache placed a w w_way)
          (λ v. h.fits cache.line_length (line_in cache a w) v (placed.fits a w w_way (h.no_revival (line_in cache a w) v)));
    }

-- where every line is changed, each line that is held is changed, or goes
pub held_line-each : (change : Line → Line) → KeepsAddresses change → (cache : Contents) → IsPlaced cache → (addr : ℕ)
    → held_line (with_each_line change cache) addr ≡ changed_held change (held_line cache addr)
held_line-each change h cache placed addr =
    by_way cache addr (λ o. held_line new addr ≡ changed_held change (option_map (line_in cache addr) o))
    (λ w lt copy. one w lt copy (is_valid (change (line_in cache addr w)).state) refl)
    (λ none. held_none new addr (λ w lt. seen w lt ∙ (ap (λ b. is_valid (change (line_in cache addr w)).state && b) (none w lt) ∙ and_right _ false refl)))
  where
    new : Contents
    new = with_each_line change cache

    seen : (w : ℕ) → w < cache.geometry.ways
        → is_copy_of (line_in new addr w) addr ≡ (is_valid (change (line_in cache addr w)).state && is_copy_of (line_in cache addr w) addr)
    seen w lt =
        ap (λ (l : Line). is_copy_of l addr) (line_in-each change cache placed addr w lt) ∙ is_copy_of-changed change h (line_in cache addr w) addr

    one : (w : ℕ) → w < cache.geometry.ways → is_copy_of (line_in cache addr w) addr ≡ true
        → (b : Bool) → is_valid (change (line_in cache addr w)).state ≡ b
        → held_line new addr ≡ cond b (Some (change (line_in cache addr w))) None
    one w lt copy true valid =
        held_here new (IsPlaced-each change h cache placed) addr w lt (seen w lt ∙ rw (valid, copy) refl)
        ∙ ap (λ (l : Line). Some l) (line_in-each change cache placed addr w lt)
    one w lt copy false valid =
        held_none new addr (λ v v_way. seen v v_way ∙ (elim (cases_eq v w) [
          | inl same ↦ ap (λ u. is_valid (change (line_in cache addr u)).state && is_copy_of (line_in cache addr u) addr) same ∙ rw valid refl
          | inr apart ↦ rw (IsPlaced-once cache placed addr w v lt v_way apart copy) (and_right _ false refl)
        ]))

-- a violation leaves each line's address, and revives none
pub KeepsAddresses-rolled_back : KeepsAddresses rolled_back_line
KeepsAddresses-rolled_back =
    record {
      addr = λ line. refl;
      no_revival = λ line. (violation-rolls_back line.state line.marks).no_revival;
      fits = λ n line v h. record { mask = rw (violation-rolls_back line.state line.marks).clears_marks (pow_pos n); cells = h.cells };
    }

-- a publish does so too
pub KeepsAddresses-published : (alone : Bool) → KeepsAddresses (published_line alone)
KeepsAddresses-published alone =
    record {
      addr = λ line. refl;
      no_revival = λ line v. rw (← (settlement-settles line.state line.marks alone).valid) v;
      fits = λ n line v h. record { mask = rw (settlement-settles line.state line.marks alone).clears_marks (pow_pos n); cells = h.cells };
    }
