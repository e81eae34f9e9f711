-- In which way a cache holds each line.
use Rattle.std.proofs.Common.{◌≡◌, ◌≢◌, ℕ, ◌<◌, ◌==◌, ◌&&◌, Bool, true, false, cond, Option, option_map, Some, None, inl, inr, refl, sym, ap, subst, ◌∙◌, slice_index_or}
use Rattle.std.proofs.lemmas.Bool.{false_from_ne_true}
use Rattle.spec_states.specs.declared.next.Next.{Next}
use Rattle.spec_states.specs.States.{is_valid}
use Rattle.cache_lines.specs.declared.line.Line.{Line}
use Rattle.cache_lines.specs.Changes.{changed_line, with_each_line, StandIn}
use Rattle.cache_lines.specs.Lines.{Contents, way_at, place, invalid_line, line_in, with_line, is_copy_of}
use Rattle.cache_lines.specs.Placed.{IsPlaced, MayStand}
use Rattle.cache_lines.specs.Protocol.{copy_at, copy_or_none}
use Rattle.cache_lines.proofs.LineLaws.{line_in-with_line, is_copy_of-true, is_copy_of-own, same_place, by_way, way_at-own}
use Rattle.cache_lines.proofs.WholeCache.{KeepsAddresses, line_in-each}

-- each copy stands where it is said to
stands : (cache : Contents) (way : ℕ → Option ℕ) (x : ℕ)
    → ((w : ℕ) → w < cache.geometry.ways → is_copy_of (line_in cache x w) x ≡ true → way x ≡ Some w)
    → way_at cache x ≡ cond (is_valid (copy_at cache x).state) (way x) None
stands cache way x f =
    by_way cache x (λ o. o ≡ cond (is_valid (copy_or_none (option_map (line_in cache x) o)).state) (way x) None)
    (λ w lt e. rw (is_copy_of-true (line_in cache x w) x e).0 (sym (f w lt e))) (λ none. refl)

-- a line came into its way
pub stand-filled : (cache : Contents) (way : ℕ) (line : Line) → IsPlaced cache → way < cache.geometry.ways
    → MayStand cache line.addr way line
    → StandIn (with_line cache line.addr way line) (λ addr. cond (is_copy_of line addr) (Some way) (way_at cache addr))
stand-filled cache way line h lt may x =
    stands (with_line cache line.addr way line) (λ addr. cond (is_copy_of line addr) (Some way) (way_at cache addr)) x
    (λ w w_way e. elim (line_in-with_line cache line.addr way line x w h lt) [
      | inl q ↦
          let copy : is_copy_of line x ≡ true = subst (λ (l : Line). is_copy_of l x ≡ true) q.1 e in
          rw copy (ap (λ (w : ℕ). Some w) (sym (same_place cache x line.addr w way w_way lt q.0).1))
      | inr q ↦
          let copy : is_copy_of (line_in cache x w) x ≡ true = subst (λ (l : Line). is_copy_of l x ≡ true) q.1 e in
          rw (false_from_ne_true (is_copy_of line x) (λ t. apart w w_way q.0 copy t)) (way_at-own cache h x w w_way copy)
    ])
  where
    apart : (w : ℕ) → w < cache.geometry.ways → place cache x w ≢ place cache line.addr way
        → is_copy_of (line_in cache x w) x ≡ true → is_copy_of line x ≡ true → ⊥
    apart w w_way away copy t =
        let p = is_copy_of-true line x t in
        let other : w ≢ way = λ e. away (ap (λ (w : ℕ). place cache x w) e ∙ ap (λ (a : ℕ). place cache a way) (sym p.1)) in
        let none : is_copy_of (line_in cache x w) x ≡ false =
        subst (λ (a : ℕ). is_copy_of (line_in cache a w) a ≡ false) p.1 (may.once p.0 w w_way other) in
        cc

-- a line took the place of one of its address
pub stand-changed : (cache : Contents) (addr way : ℕ) (line : Line) → IsPlaced cache → way < cache.geometry.ways
    → ((x : ℕ) → is_copy_of line x ≡ true → is_copy_of (line_in cache addr way) x ≡ true)
    → StandIn (with_line cache addr way line) (way_at cache)
stand-changed cache addr way line h lt was x =
    stands (with_line cache addr way line) (way_at cache) x
    (λ w w_way e. way_at-own cache h x w w_way
    (elim (line_in-with_line cache addr way line x w h lt) [
      | inl q ↦
          let same : line_in cache x w ≡ line_in cache addr way = ap (λ (p : ℕ). slice_index_or cache.lines p invalid_line) q.0 in
          let copy : is_copy_of line x ≡ true = subst (λ (l : Line). is_copy_of l x ≡ true) q.1 e in
          rw same (was x copy)
      | inr q ↦ subst (λ (l : Line). is_copy_of l x ≡ true) q.1 e
    ]))

-- a line's state and marks changed
pub stand-marked : (cache new : Contents) (addr way : ℕ) (next : Next) → IsPlaced cache → way < cache.geometry.ways
    → (is_valid next.state ≡ true → is_valid (line_in cache addr way).state ≡ true)
    → new ≡ with_line cache addr way (changed_line (line_in cache addr way) next) → StandIn new (way_at cache)
stand-marked cache new addr way next h lt held is_new =
    subst (λ (c : Contents). StandIn c (way_at cache)) (sym is_new)
    (stand-changed cache addr way (changed_line (line_in cache addr way) next) h lt
    (λ x e.
    let p = is_copy_of-true (changed_line (line_in cache addr way) next) x e in
    subst (λ (a : ℕ). is_copy_of (line_in cache addr way) a ≡ true) p.1 (is_copy_of-own (line_in cache addr way) (held p.0))))

-- every line changed
pub stand-each : (change : Line → Line) → KeepsAddresses change → (cache : Contents) → IsPlaced cache
    → StandIn (with_each_line change cache) (way_at cache)
stand-each change h cache placed x =
    stands (with_each_line change cache) (way_at cache) x
    (λ w w_way e. way_at-own cache placed x w w_way
    (was (line_in cache x w) (subst (λ (l : Line). is_copy_of l x ≡ true) (line_in-each change cache placed x w w_way) e)))
  where
    equal : (b : Bool) (a : ℕ) → (b && (a == x)) ≡ true → (a == x) ≡ true
    equal true a e = e
    equal false a e = cc

    was : (line : Line) → is_copy_of (change line) x ≡ true → is_copy_of line x ≡ true
    was line e =
        let p = is_copy_of-true (change line) x e in
        rw (h.no_revival line p.0) (subst (λ (a : ℕ). (a == x) ≡ true) (h.addr line) (equal (is_valid (change line).state) (change line).addr e))

-- a cache holds just the lines that stand in a way
pub way_at-stands : (cache : Contents) → StandIn cache (way_at cache)
way_at-stands cache x =
    by_way cache x (λ o. o ≡ cond (is_valid (copy_or_none (option_map (line_in cache x) o)).state) o None)
    (λ w lt e. rw (is_copy_of-true (line_in cache x w) x e).0 refl) (λ none. refl)
