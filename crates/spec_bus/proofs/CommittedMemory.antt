-- Memory with the lines over it that are M in a cache.
use Rattle.std.proofs.Common.{◌≡◌, ℕ, ◌+◌, ◌-◌, ◌*◌, ◌/◌, ◌%◌, ◌<◌, ◌==◌, ◌||◌, ◌&&◌, nat_lt, Bool, true, false, cond, option_map, length, true≢false, refl, sym, ap, ◌∙◌, arith, add-one}
use Rattle.std.proofs.Math.Nat.{mod-lt, mod-eq_of_lt, mul-div_cancel}
use Rattle.std.proofs.lemmas.Nat.{div-mul-add, mod-mul-add}
use Rattle.std.proofs.lemmas.Bool.{false_from_ne_true, eq-eqb}
use Rattle.std.proofs.lemmas.Bool.Decides.{nat_tests}
use Rattle.spec_states.specs.Copies.{LineCopy}
use Rattle.spec_states.specs.Mask.{is_within}
use Rattle.spec_states.specs.States.{is_modified}
use Rattle.spec_states.proofs.RowLaws.{modified-valid}
use Rattle.cache_lines.specs.declared.line.Line.{Line}
use Rattle.cache_lines.specs.Cells.{cell_of}
use Rattle.cache_lines.specs.Lines.{Contents, set_of, place, line_in, is_copy_of}
use Rattle.rv32_image.specs.Machine.{is_line_length}
use Rattle.cache_lines.specs.Placed.{IsPlaced}
use Rattle.cache_lines.specs.Protocol.{copy_at, copy_or_none}
use Rattle.cache_lines.proofs.CopyLaws.{copy_at-line}
use Rattle.cache_lines.proofs.LineLaws.{is_copy_of-true, line_in-same_set, by_way, set-lt, place-lt}
use Rattle.bus_states.specs.Bus.{Bus, CoreState, line_of, offset_of, memory_line, some_core, committed_among}
use Rattle.bus_states.specs.Coherent.{IsCoherent}
use Rattle.bus_states.specs.Messages.{with_line}
use Rattle.rv32_image.proofs.Bounds.{by_length, place_in}
use Rattle.bus_states.proofs.Addresses.{line-and_offset, offset-in_line}
use Rattle.bus_states.proofs.Coherence.{none_below, none_at_all}
use Rattle.spec_bus.specs.CoreStates.{state_of, line_in_place, is_modified_in, FitsMemory}
use Rattle.spec_bus.specs.declared.bus_core.Core.{Core}

-- a byte lies in a line just where its own line is that one
byte_in_line : (length addr p : ℕ) → is_line_length length ≡ true → addr % length ≡ 0 → is_within addr length p ≡ (addr == line_of length p)
byte_in_line length addr p h =
    by_length (λ (n : ℕ). addr % n ≡ 0 → is_within addr n p ≡ (addr == line_of n p)) length h (λ a. grind (arith, nat_tests)) (λ a. grind (arith, nat_tests)) (λ a. grind (arith, nat_tests))

byte_offset : (length addr p : ℕ) → is_line_length length ≡ true → addr ≡ line_of length p → p - addr ≡ offset_of length p
byte_offset length addr p h e =
    let both : line_of length p + offset_of length p ≡ p = line-and_offset length p h in
    rw e (omega (arith, both))

-- one line, where it is M
pub place_written : (cache : Contents) (at : ℕ) (old : ℕ → ℕ) (new p : ℕ) → IsPlaced cache
    → new ≡ cond (is_modified (line_in_place cache at).state) (with_line cache.line_length (line_in_place cache at).addr (cell_of (line_in_place cache at)) old) old p
    → new ≡ cond (is_modified_in cache (line_of cache.line_length p) at) ((copy_at cache (line_of cache.line_length p)).cell (offset_of cache.line_length p)) (old p)
place_written cache at old new p h is = is ∙ one (is_modified line.state) refl
  where
    n : ℕ
    n = cache.line_length

    line : Line
    line = line_in_place cache at

    ways : ℕ
    ways = cache.geometry.ways

    way : at % ways < ways
    way = mod-lt at h.geometry_is.some_way

    here : (b : Bool) → is_modified line.state ≡ true → (line.addr == line_of n p) ≡ b
        → cond b (cell_of line (p - line.addr)) (old p) ≡ cond b ((copy_at cache (line_of n p)).cell (offset_of n p)) (old p)
    here true m e =
        let at_line : line.addr ≡ line_of n p = grind (arith, nat_tests) in
        let valid = modified-valid line.state m in
        let held : is_copy_of line (line_of n p) ≡ true = rw (valid, e) refl in
        let copy = copy_at-line cache h (at / ways * n) (at % ways) (line_of n p) way held in
        ap (cell_of line) (byte_offset n line.addr p h.length_is at_line) ∙ ap (λ (c : LineCopy). c.cell (offset_of n p)) (sym copy)
    here false m e = refl

    one : (m : Bool) → is_modified line.state ≡ m
        → cond m (with_line n line.addr (cell_of line) old) old p ≡ cond (m && (line.addr == line_of n p)) ((copy_at cache (line_of n p)).cell (offset_of n p)) (old p)
    one true m =
        let aligned = h.aligned (at / ways * n) (at % ways) way (modified-valid line.state m) in
        ap (λ (b : Bool). cond b (cell_of line (p - line.addr)) (old p)) (byte_in_line n line.addr p h.length_is aligned) ∙ here (line.addr == line_of n p) m refl
    one false m = refl

-- ---- all places

pub some-more : (n : ℕ) (test : ℕ → Bool) → some_core (n + 1) test ≡ (test n || some_core n test)
unfolding some_core
some-more n test = rw (add-one n) refl

-- the lines in the places below n are written
abbrev pub AreWritten : Contents → ℕ → (ℕ → ℕ) → (ℕ → ℕ) → Type 0
AreWritten cache n old new =
    (p : ℕ) → new p
    ≡ cond (some_core n (is_modified_in cache (line_of cache.line_length p))) ((copy_at cache (line_of cache.line_length p)).cell (offset_of cache.line_length p)) (old p)

pub written_none : (cache : Contents) (old : ℕ → ℕ) → AreWritten cache 0 old old
unfolding some_core
written_none cache old p = refl

pub written_more : (cache : Contents) (n : ℕ) (old mid new : ℕ → ℕ) → AreWritten cache n old mid
    → ((p : ℕ) → new p ≡ cond (is_modified_in cache (line_of cache.line_length p) n) ((copy_at cache (line_of cache.line_length p)).cell (offset_of cache.line_length p)) (mid p))
    → AreWritten cache (n + 1) old new
written_more cache n old mid new before step p =
    rw (some-more n (is_modified_in cache (line_of cache.line_length p)))
    (either (is_modified_in cache (line_of cache.line_length p) n) (step p))
  where
    either : (b : Bool) → new p ≡ cond b ((copy_at cache (line_of cache.line_length p)).cell (offset_of cache.line_length p)) (mid p)
        → new p ≡ cond (b || some_core n (is_modified_in cache (line_of cache.line_length p))) ((copy_at cache (line_of cache.line_length p)).cell (offset_of cache.line_length p)) (old p)
    either true is = is
    either false is = is ∙ before p

-- a place of the set of this address
of_set : (cache : Contents) (a w : ℕ) → IsPlaced cache → w < cache.geometry.ways
    → (set_of cache (place cache a w / cache.geometry.ways * cache.line_length) ≡ set_of cache a) × (place cache a w % cache.geometry.ways ≡ w)
of_set cache a w h way =
    let n : ℕ = cache.line_length in
    let set : ℕ = set_of cache a in
    let some : 0 < n = omega (arith, place_in n 0 h.length_is) in (
      ap (λ s. s * n / n % cache.geometry.sets) (div-mul-add set cache.geometry.ways w way)
          ∙ (ap (λ s. s % cache.geometry.sets) (mul-div_cancel set some) ∙ mod-eq_of_lt (set-lt cache h.geometry_is a)),
      mod-mul-add set cache.geometry.ways w way,
    )

-- the copy of a line is M just where a line in some place is
pub some_modified : (cache : Contents) (a : ℕ) → IsPlaced cache
    → some_core (cache.geometry.sets * cache.geometry.ways) (is_modified_in cache a) ≡ is_modified (copy_at cache a).state
some_modified cache a h = same (some_core (cache.geometry.sets * cache.geometry.ways) (is_modified_in cache a)) (is_modified (copy_at cache a).state) refl refl
  where
    n : ℕ
    n = cache.line_length

    ways : ℕ
    ways = cache.geometry.ways

    places : ℕ
    places = cache.geometry.sets * cache.geometry.ways

    -- where the line in a place is M, so is the copy
    up : (at : ℕ) → is_modified_in cache a at ≡ true → is_modified (copy_at cache a).state ≡ true
    up at e =
        let line : Line = line_in_place cache at in
        let m : is_modified line.state ≡ true = grind (arith, nat_tests) in
        let there : (line.addr == a) ≡ true = grind (arith, nat_tests) in
        let held : is_copy_of line a ≡ true = rw (modified-valid line.state m, there) refl in
        ap (λ (c : LineCopy). is_modified c.state) (copy_at-line cache h (at / ways * n) (at % ways) a (mod-lt at h.geometry_is.some_way) held) ∙ m

    -- and the other way round
    down : (w : ℕ) → w < ways → is_copy_of (line_in cache a w) a ≡ true → is_modified (copy_at cache a).state ≡ true
        → (at : ℕ) × (at < places) × (is_modified_in cache a at ≡ true)
    down w way held m =
        let at : ℕ = place cache a w in
        let there = of_set cache a w h way in
        let is_line : line_in_place cache at ≡ line_in cache a w =
        ap (λ v. line_in cache (at / ways * n) v) there.1 ∙ sym (line_in-same_set cache (at / ways * n) a w there.0) in
        let copy = copy_at-line cache h a w a way held in
        let both = is_copy_of-true (line_in cache a w) a held in
        let modified : is_modified (line_in cache a w).state ≡ true = ap (λ (c : LineCopy). is_modified c.state) (sym copy) ∙ m in
        let own : ((line_in cache a w).addr == a) ≡ true = rw both.1 (eq-eqb a a refl) in
        (at, place-lt cache h.geometry_is a w way, ap (λ (l : Line). is_modified l.state && (l.addr == a)) is_line ∙ rw (modified, own) refl)

    somewhere : is_modified (copy_at cache a).state ≡ true → (at : ℕ) × (at < places) × (is_modified_in cache a at ≡ true)
    somewhere m =
        by_way cache a (λ o. is_modified (copy_or_none (option_map (line_in cache a) o)).state ≡ true → (at : ℕ) × (at < places) × (is_modified_in cache a at ≡ true))
        (λ w way held _. down w way held m)
        (λ none never. absurd (true≢false (sym never))) m

    same : (b c : Bool) → some_core (cache.geometry.sets * cache.geometry.ways) (is_modified_in cache a) ≡ b → is_modified (copy_at cache a).state ≡ c → b ≡ c
    same true true e f = refl
    same false false e f = refl
    same true false e f =
        let none = none_at_all places (is_modified_in cache a) (λ at _. false_from_ne_true (is_modified_in cache a at) (λ t. true≢false (sym (up at t) ∙ f))) in
        sym e ∙ none
    same false true e f =
        let found = somewhere f in
        let none = none_below places (is_modified_in cache a) e found.0 found.1 in
        sym none ∙ found.2

-- ---- all cores

abbrev pub CommittedBelow : ℕ → (ℕ → ℕ → LineCopy) → ℕ → (ℕ → ℕ) → (ℕ → ℕ) → Type 0
CommittedBelow n copies length memory new =
    (p : ℕ) → new p ≡ committed_among n (copies (line_of length p)) (memory_line length memory (line_of length p)) (offset_of length p)

pub committed_start : (copies : ℕ → ℕ → LineCopy) (length : ℕ) (memory : ℕ → ℕ) → is_line_length length ≡ true → CommittedBelow 0 copies length memory memory
unfolding committed_among
committed_start copies length memory h p =
    let lt = offset-in_line length p h in
    let inside : nat_lt (offset_of length p) length ≡ true = grind (arith, nat_tests) in
    rw inside (ap memory (sym (line-and_offset length p h)))

pub committed_core : (n : ℕ) (copies : ℕ → ℕ → LineCopy) (length : ℕ) (memory old new : ℕ → ℕ) → CommittedBelow n copies length memory old
    → ((p : ℕ) → new p ≡ cond (is_modified (copies (line_of length p) n).state) ((copies (line_of length p) n).cell (offset_of length p)) (old p))
    → CommittedBelow (n + 1) copies length memory new
unfolding committed_among
committed_core n copies length memory old new before step p =
    rw (add-one n) (step p ∙ either (is_modified (copies (line_of length p) n).state))
  where
    either : (b : Bool) → cond b ((copies (line_of length p) n).cell (offset_of length p)) (old p)
        ≡ cond b (copies (line_of length p) n).cell (committed_among n (copies (line_of length p)) (memory_line length memory (line_of length p))) (offset_of length p)
    either true = refl
    either false = before p

-- what a core of a coherent bus holds lies in memory
pub fits_memory : (bus : Bus) (k size : ℕ) (core : Core) → IsCoherent bus → k < bus.shape.cores → state_of core ≡ bus.core k
    → size ≡ bus.shape.size → FitsMemory core.cache size
fits_memory bus k size core h there is sized addr m =
    let held : is_modified ((bus.core k).copy addr).state ≡ true = ap (λ (s : CoreState). is_modified (s.copy addr).state) (sym is) ∙ m in
    let inside = h.inside k addr (modified-valid ((bus.core k).copy addr).state held) in
    let long : core.cache.line_length ≡ bus.line_length = ap (λ (s : CoreState). s.line_length) is ∙ h.lengths k there in
    rw (long, sized) inside
