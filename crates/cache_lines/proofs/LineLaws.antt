-- What a change of one line does to the lines of a cache and to the lines that it holds.
use Rattle.std.proofs.Common.{slice_index_or, suc, ◌≡◌, ◌≢◌, ℕ, ◌+◌, ◌*◌, ◌/◌, ◌%◌, ◌<◌, ◌≤◌, ◌==◌, ◌&&◌, Bool, true, false, cond, List, length, Option, Some, None, option_map, ◌⊎◌, inl, inr, true≢false, refl, sym, ap, subst, ◌∙◌, arith, get_or-set_other}
use Rattle.std.proofs.Math.Nat.{mod-lt, mul-le-mul_right}
use Rattle.std.proofs.lemmas.Nat.{div-mul-add, mod-mul-add}
use Rattle.std.proofs.lemmas.Bool.{cases_eq, false_from_ne_true}
use Rattle.std.proofs.lemmas.Bool.Decides.{nat_tests}
use Rattle.std.proofs.lemmas.Grind.{get_or-set_at}
use Rattle.std.proofs.lemmas.List.{get_or_default, length-set}
use Rattle.spec_states.specs.States.{is_valid}
use Rattle.cache_lines.specs.declared.line.Line.{Line}
use Rattle.cache_lines.specs.Lines.{Contents, IsGeometry, set_of, place, invalid_line, line_in, with_line, is_copy_of, way_at, held_line}
use Rattle.rv32_image.specs.Machine.{is_set_count}
use Rattle.cache_lines.proofs.Firsts.{first_is, none_is, found_first, found_none}
use Rattle.cache_lines.specs.Placed.{IsNotElsewhere, FitsLength, IsPlaced, MayStand}

-- ---- places

-- two places are the same only in one set and one way
pub same_place : (cache : Contents) (a b w v : ℕ) → w < cache.geometry.ways → v < cache.geometry.ways → place cache a w ≡ place cache b v
    → (set_of cache a ≡ set_of cache b) × (w ≡ v)
same_place cache a b w v w_way v_way e =
    let n : ℕ = cache.geometry.ways in (
      sym (div-mul-add (set_of cache a) n w w_way) ∙ (ap (λ p. p / n) e ∙ div-mul-add (set_of cache b) n v v_way),
      sym (mod-mul-add (set_of cache a) n w w_way) ∙ (ap (λ p. p % n) e ∙ mod-mul-add (set_of cache b) n v v_way),
    )

pub place-same_set : (cache : Contents) (a b w : ℕ) → set_of cache a ≡ set_of cache b → place cache a w ≡ place cache b w
place-same_set cache a b w e = ap (λ s. s * cache.geometry.ways + w) e

-- some set, and not more sets than there may be
pub sets-within : (sets : ℕ) → is_set_count sets ≡ true → (0 < sets) × (sets ≤ 1024)
sets-within sets h = (grind (arith, nat_tests), grind (arith, nat_tests))

pub set-lt : (cache : Contents) → IsGeometry cache.geometry → (a : ℕ) → set_of cache a < cache.geometry.sets
set-lt cache h a = mod-lt (a / cache.line_length) (sets-within cache.geometry.sets h.sets_are).0

-- a place below `sets` sets of so many ways
pub row-lt : (sets ways set way : ℕ) → set < sets → way < ways → set * ways + way < sets * ways
row-lt sets ways set way set_lt way_lt =
    let rows : suc set * ways ≤ sets * ways = mul-le-mul_right ways set_lt in
    omega (arith, rows, way_lt)

pub place-lt : (cache : Contents) → IsGeometry cache.geometry → (a w : ℕ) → w < cache.geometry.ways
    → place cache a w < cache.geometry.sets * cache.geometry.ways
place-lt cache h a w w_way = row-lt cache.geometry.sets cache.geometry.ways (set_of cache a) w (set-lt cache h a) w_way

-- ---- a line that is replaced

-- a place has the new line, or is another one and has the line that it had
pub line_in-with_line : (cache : Contents) (addr way : ℕ) (line : Line) (a w : ℕ)
    → IsPlaced cache → way < cache.geometry.ways
    → ((place cache a w ≡ place cache addr way) × (line_in (with_line cache addr way line) a w ≡ line))
    ⊎ ((place cache a w ≢ place cache addr way) × (line_in (with_line cache addr way line) a w ≡ line_in cache a w))
line_in-with_line cache addr way line a w h way_way =
    elim (cases_eq (place cache a w) (place cache addr way)) [
      | inl e ↦ inl (e, get_or-set_at cache.lines (place cache addr way) (place cache a w) line invalid_line e (rw h.size (place-lt cache h.geometry_is addr way way_way)))
      | inr ne ↦ inr (ne, get_or-set_other cache.lines (place cache addr way) (place cache a w) line invalid_line ne)
    ]

-- a line of a set whose lines these are
pub line_in-set : (cache : Contents) (lines : List Line) (addr way : ℕ) (default : Line) → length lines ≡ cache.geometry.ways
    → ((w : ℕ) → w < cache.geometry.ways → slice_index_or lines w invalid_line ≡ line_in cache addr w) → way < length lines
    → slice_index_or lines way default ≡ line_in cache addr way
line_in-set cache lines addr way default count are lt =
    get_or_default lines way default invalid_line lt ∙ are way (omega (arith, lt, count))

-- the way has the new line
pub line_in-own : (cache : Contents) (addr way : ℕ) (line : Line) → IsPlaced cache → way < cache.geometry.ways
    → line_in (with_line cache addr way line) addr way ≡ line
line_in-own cache addr way line h way_way = elim (line_in-with_line cache addr way line addr way h way_way) [
  | inl q ↦ q.1
  | inr q ↦ absurd (q.0 refl)
]

-- a copy of a line is valid and has its address
pub is_copy_of-true : (line : Line) (addr : ℕ) → is_copy_of line addr ≡ true
    → (is_valid line.state ≡ true) × (line.addr ≡ addr)
is_copy_of-true line addr e = both (is_valid line.state) line.addr addr e
  where
    both : (b : Bool) (m n : ℕ) → (b && (m == n)) ≡ true → (b ≡ true) × (m ≡ n)
    both b m n e = (grind (arith, nat_tests), grind (arith, nat_tests))

pub is_copy_of-own : (line : Line) → is_valid line.state ≡ true → is_copy_of line line.addr ≡ true
is_copy_of-own line e = both (is_valid line.state) line.addr e
  where
    both : (b : Bool) (m : ℕ) → b ≡ true → (b && (m == m)) ≡ true
    both b m e = grind (arith, nat_tests)

-- a line has at most one copy in its set
pub IsPlaced-once : (cache : Contents) → IsPlaced cache → (addr way other : ℕ) → way < cache.geometry.ways
    → other < cache.geometry.ways → other ≢ way → is_copy_of (line_in cache addr way) addr ≡ true
    → is_copy_of (line_in cache addr other) addr ≡ false
IsPlaced-once cache h addr way other way_way other_way apart e =
    let p = is_copy_of-true (line_in cache addr way) addr e in
    rw p.1 at (h.once addr way way_way p.0 other other_way apart)

-- two lines that are one, and addresses that are one, have one answer
clash : (x y : Line) (m n : ℕ) → x ≡ y → m ≡ n → is_copy_of x m ≡ false → is_copy_of y n ≡ true → ⊥
clash x y m n e f refuted shown =
    let refuted' : is_copy_of y n ≡ false = rw (← e, ← f) refuted in
    cc

-- the new line's address stands nowhere else
new_once : (cache : Contents) (addr way : ℕ) (line : Line) → IsPlaced cache → way < cache.geometry.ways
    → MayStand cache addr way line → (a w : ℕ) → w < cache.geometry.ways
    → place cache a w ≡ place cache addr way → is_valid line.state ≡ true
    → IsNotElsewhere (with_line cache addr way line) line.addr w
new_once cache addr way line h way_way may a w w_way e valid other other_way apart =
    let p = same_place cache a addr w way w_way way_way e in
    elim (line_in-with_line cache addr way line line.addr other h way_way) [
      | inl q ↦ absurd (apart ((same_place cache line.addr addr other way other_way way_way q.0).1 ∙ sym p.1))
      | inr q ↦ rw q.1 (may.once valid other other_way (λ o. apart (o ∙ sym p.1)))
    ]

-- one set, by any of its addresses
pub line_in-same_set : (cache : Contents) (x addr w : ℕ) → set_of cache x ≡ set_of cache addr
    → line_in cache addr w ≡ line_in cache x w
line_in-same_set cache x addr w e =
    ap (λ n. slice_index_or cache.lines n invalid_line) (place-same_set cache addr x w (sym e))

-- the address of a line that was there stands nowhere else
old_once : (cache : Contents) (addr way : ℕ) (line : Line) → IsPlaced cache → way < cache.geometry.ways
    → MayStand cache addr way line → (a w : ℕ) → w < cache.geometry.ways → is_valid (line_in cache a w).state ≡ true
    → IsNotElsewhere (with_line cache addr way line) (line_in cache a w).addr w
old_once cache addr way line h way_way may a w w_way valid other other_way apart =
    let old : Line = line_in cache a w in
    elim (line_in-with_line cache addr way line old.addr other h way_way) [
      | inl q ↦ rw q.1
          (false_from_ne_true (is_copy_of line old.addr)
          (λ t.
          let p = is_copy_of-true line old.addr t in
          let same_set : set_of cache line.addr ≡ set_of cache a = ap (λ x. set_of cache x) p.1 ∙ h.in_set a w w_way valid in
          let o = same_place cache old.addr addr other way other_way way_way q.0 in
          clash (line_in cache line.addr w) old line.addr old.addr
          (line_in-same_set cache a line.addr w (sym same_set))
          p.1
          (may.once p.0 w w_way (λ v. apart (o.1 ∙ sym v)))
          (is_copy_of-own old valid)))
      | inr q ↦ rw q.1 (h.once a w w_way valid other other_way apart)
    ]

-- the lines stay in their places where one is replaced by a line that may stand there
pub IsPlaced-with_line : (cache : Contents) (addr way : ℕ) (line : Line) → IsPlaced cache → way < cache.geometry.ways
    → MayStand cache addr way line → IsPlaced (with_line cache addr way line)
IsPlaced-with_line cache addr way line h way_way may =
    record {
      length_is = h.length_is;
      geometry_is = h.geometry_is;
      size = length-set cache.lines (place cache addr way) line ∙ h.size;
      aligned =
          λ a w w_way.
          elim (line_in-with_line cache addr way line a w h way_way) [
            | inl q ↦ subst (λ (l : Line). is_valid l.state ≡ true → l.addr % cache.line_length ≡ 0) (sym q.1) may.aligned
            | inr q ↦ subst (λ (l : Line). is_valid l.state ≡ true → l.addr % cache.line_length ≡ 0) (sym q.1) (h.aligned a w w_way)
          ];
      in_set =
          λ a w w_way.
          elim (line_in-with_line cache addr way line a w h way_way) [
            | inl q ↦ subst (λ (l : Line). is_valid l.state ≡ true → set_of cache l.addr ≡ set_of cache a) (sym q.1)
                (λ v. may.in_set v ∙ sym (same_place cache a addr w way w_way way_way q.0).0)
            | inr q ↦ subst (λ (l : Line). is_valid l.state ≡ true → set_of cache l.addr ≡ set_of cache a) (sym q.1) (h.in_set a w w_way)
          ];
      once =
          λ a w w_way.
          elim (line_in-with_line cache addr way line a w h way_way) [
            | inl q ↦ subst (λ (l : Line). is_valid l.state ≡ true → IsNotElsewhere (with_line cache addr way line) l.addr w) (sym q.1)
                (new_once cache addr way line h way_way may a w w_way q.0)
            | inr q ↦ subst (λ (l : Line). is_valid l.state ≡ true → IsNotElsewhere (with_line cache addr way line) l.addr w) (sym q.1)
                (old_once cache addr way line h way_way may a w w_way)
          ];
      fits =
          λ a w w_way.
          elim (line_in-with_line cache addr way line a w h way_way) [
            | inl q ↦ subst (λ (l : Line). is_valid l.state ≡ true → FitsLength cache.line_length l) (sym q.1) may.fits
            | inr q ↦ subst (λ (l : Line). is_valid l.state ≡ true → FitsLength cache.line_length l) (sym q.1) (h.fits a w w_way)
          ];
    }

-- ---- the line that a cache holds

-- what holds of the way of a line, where it is in some way and where it is in none
pub by_way : (cache : Contents) (x : ℕ) (P : Option ℕ → Type 0)
    → ((w : ℕ) → w < cache.geometry.ways → is_copy_of (line_in cache x w) x ≡ true → P (Some w))
    → (((w : ℕ) → w < cache.geometry.ways → is_copy_of (line_in cache x w) x ≡ false) → P None) → P (way_at cache x)
by_way cache x P some none = pick (way_at cache x) refl
  where
    pick : (o : Option ℕ) → way_at cache x ≡ o → P o
    pick (Some w) e = let h = found_first 0 cache.geometry.ways (λ v. is_copy_of (line_in cache x v) x) w e in some w (omega (arith, h.below)) h.passes
    pick None e = none (λ w lt. found_none 0 cache.geometry.ways (λ v. is_copy_of (line_in cache x v) x) e w (omega arith) (omega (arith, lt)))

-- the way of a copy is that in which it stands
pub way_at-own : (cache : Contents) → IsPlaced cache → (x w : ℕ) → w < cache.geometry.ways → is_copy_of (line_in cache x w) x ≡ true
    → way_at cache x ≡ Some w
way_at-own cache h x w lt e =
    first_is 0 cache.geometry.ways (λ v. is_copy_of (line_in cache x v) x) w (record {
      from = omega arith;
      below = omega (arith, lt);
      passes = e;
      first = λ v _ before. IsPlaced-once cache h x w v lt (omega (arith, before, lt)) (omega (arith, before)) e;
    })

pub way_at-none : (cache : Contents) (x : ℕ) → ((w : ℕ) → w < cache.geometry.ways → is_copy_of (line_in cache x w) x ≡ false)
    → way_at cache x ≡ None
way_at-none cache x none = none_is 0 cache.geometry.ways (λ v. is_copy_of (line_in cache x v) x) (λ w _ lt. none w (omega (arith, lt)))

-- the line of a way, where it is a copy of this line, is the one that the cache holds
pub held_here : (cache : Contents) → IsPlaced cache → (x way : ℕ) → way < cache.geometry.ways
    → is_copy_of (line_in cache x way) x ≡ true → held_line cache x ≡ Some (line_in cache x way)
held_here cache h x way way_way e = ap (option_map (line_in cache x)) (way_at-own cache h x way way_way e)

pub held_none : (cache : Contents) (x : ℕ) → ((w : ℕ) → w < cache.geometry.ways → is_copy_of (line_in cache x w) x ≡ false)
    → held_line cache x ≡ None
held_none cache x none = ap (option_map (line_in cache x)) (way_at-none cache x none)

pub held_line-own : (cache : Contents) → IsPlaced cache → (addr way x : ℕ) → way < cache.geometry.ways
    → is_copy_of (line_in cache addr way) x ≡ true → held_line cache x ≡ Some (line_in cache addr way)
held_line-own cache h addr way x way_way e =
    let p = is_copy_of-true (line_in cache addr way) x e in
    let same_set : set_of cache x ≡ set_of cache addr = ap (λ a. set_of cache a) (sym p.1) ∙ h.in_set addr way way_way p.0 in
    let same : line_in cache addr way ≡ line_in cache x way = line_in-same_set cache x addr way same_set in
    held_here cache h x way way_way (ap (λ (line : Line). is_copy_of line x) (sym same) ∙ e) ∙ ap (λ (line : Line). Some line) (sym same)

-- what it holds of the line at `addr` where one line of a set was replaced
abbrev pub held_after : Line → Line → ℕ → Option Line → Option Line
held_after before after addr held =
    cond (is_copy_of after addr) (Some after) (cond (is_copy_of before addr) None held)

-- the lines held after one line is replaced
pub held_line-with_line : (cache : Contents) (addr way : ℕ) (line : Line) → IsPlaced cache → way < cache.geometry.ways
    → MayStand cache addr way line → (x : ℕ)
    → held_line (with_line cache addr way line) x ≡ held_after (line_in cache addr way) line x (held_line cache x)
held_line-with_line cache addr way line h way_way may x = after (is_copy_of line x) (is_copy_of before x) refl refl
  where
    before : Line
    before = line_in cache addr way

    new : Contents
    new = with_line cache addr way line

    placed : IsPlaced new
    placed = IsPlaced-with_line cache addr way line h way_way may

    is_copy : Line → Bool
    is_copy l = is_copy_of l x

    -- a way has the new line or the one that it had
    either : (P : Line → Type 0) (w : ℕ) → P line → (place cache x w ≢ place cache addr way → P (line_in cache x w)) → P (line_in new x w)
    either P w one other = elim (line_in-with_line cache addr way line x w h way_way) [
      | inl q ↦ subst P (sym q.1) one
      | inr q ↦ subst P (sym q.1) (other q.0)
    ]

    here : is_copy_of line x ≡ true → held_line new x ≡ Some line
    here e =
        let p = is_copy_of-true line x e in
        let same_set : set_of cache x ≡ set_of cache addr = ap (λ a. set_of cache a) (sym p.1) ∙ may.in_set p.0 in
        let is : line_in new x way ≡ line = either (λ l. l ≡ line) way refl (λ apart. absurd (apart (place-same_set cache x addr way same_set))) in
        held_here new placed x way way_way (ap is_copy is ∙ e) ∙ ap (λ (l : Line). Some l) is

    gone : is_copy_of line x ≡ false → is_copy_of before x ≡ true → held_line new x ≡ None
    gone e f =
        let p = is_copy_of-true before x f in
        let same_set : set_of cache x ≡ set_of cache addr = ap (λ a. set_of cache a) (sym p.1) ∙ h.in_set addr way way_way p.0 in
        let copy : is_copy_of (line_in cache x way) x ≡ true = ap is_copy (sym (line_in-same_set cache x addr way same_set)) ∙ f in
        held_none new x (λ w lt. either (λ l. is_copy_of l x ≡ false) w e
        (λ apart. IsPlaced-once cache h x way w way_way lt
        (λ same. apart (place-same_set cache x addr w same_set ∙ ap (λ v. place cache addr v) same)) copy))

    stays : is_copy_of line x ≡ false → is_copy_of before x ≡ false → held_line new x ≡ held_line cache x
    stays e f = by_way cache x (λ o. held_line new x ≡ option_map (line_in cache x) o)
        (λ w lt copy. elim (line_in-with_line cache addr way line x w h way_way) [
          | inl q ↦
              let same : line_in cache x w ≡ before = ap (λ p. slice_index_or cache.lines p invalid_line) q.0 in
              absurd (true≢false (sym copy ∙ (ap is_copy same ∙ f)))
          | inr q ↦ held_here new placed x w lt (ap is_copy q.1 ∙ copy) ∙ ap (λ (l : Line). Some l) q.1
        ])
        (λ none. held_none new x (λ w lt. either (λ l. is_copy_of l x ≡ false) w e (λ _. none w lt)))

    after : (b d : Bool) → is_copy_of line x ≡ b → is_copy_of before x ≡ d
        → held_line new x ≡ cond b (Some line) (cond d None (held_line cache x))
    after true d e f = here e
    after false true e f = gone e f
    after false false e f = stays e f
