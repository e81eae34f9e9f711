-- The rows in which a core on the bus has stored bytes.
use Rattle.std.proofs.Common.{◌≡◌, ℕ, ◌+◌, ◌*◌, ◌/◌, ◌%◌, ◌<◌, ◌≤◌, zero, suc, true, false, List, [], ◌∷◌, option_map, length, slice_get, Option, Some, None, inl, inr, refl, sym, ap, subst, ◌∙◌, ◌++◌, add-one, arith, true≢false}
use Rattle.std.specs.BTreeSet.{BTreeSet, contains}
use Rattle.std.specs.List.{slice_index_or}
use Rattle.std.specs.Ordering.{nat_cmp}
use Rattle.std.proofs.Math.Nat.{mod-lt, mod-eq_of_lt, mul-div_cancel}
use Rattle.std.proofs.lemmas.Nat.{div-mul-add, mod-mul-add}
use Rattle.std.proofs.lemmas.Bool.{cases_eq, or_right}
use Rattle.std.proofs.lemmas.Bool.Decides.{nat_tests}
use Rattle.std.proofs.lemmas.List.{get_or_append_left, get_or_push, length_push}
use Rattle.std.proofs.lemmas.Option.{slice_get_within}
use Rattle.rv32_image.proofs.SmallFacts.{one_value}
use Rattle.spec_states.specs.Mask.{has}
use Rattle.spec_states.proofs.MaskLaws.{has-zero}
use Rattle.cache_lines.specs.declared.line.Line.{Line}
use Rattle.cache_lines.specs.Lines.{Contents, Geometry, geometry_of, invalid_line}
use Rattle.rv32_image.specs.declared.machine.Machine.{Machine}
use Rattle.rv32_image.specs.Machine.{IsMachine}
use Rattle.rv32_image.specs.Places.{of_places, place}
use Rattle.rv32_image.proofs.Bounds.{place_in}
use Rattle.cache_lines.specs.Lines as lines
use Rattle.cache_lines.specs.Protocol.{copy_or_none, copy_at}
use Rattle.cache_lines.proofs.LineLaws.{is_copy_of-true, by_way, row-lt, sets-within}
use Rattle.bus_states.specs.Coherent.{IsCoherent}
use Rattle.spec_bus.specs.declared.bus_core.Core.{Core}
use Rattle.spec_bus.specs.Cached.{CachedView, bus, line_of_core, machine_of, store_view}
use Rattle.spec_bus.specs.Parts.{state_or_none}
use Rattle.turn_steps.specs.Caches.{AreHeld, AreShown, AreWhole, HasOwnRows, HasRowsOf, Held, held, line_at, lines_below, is_of_five, no_line, place_count}
use Rattle.turn_steps.specs.Laws.{Adds}
use Rattle.turn_steps.specs.Rows.{row_count}

-- one way more
pub own_more : (machine : Machine) (size : ℕ) (ways : List Line) (i : ℕ) (old new : BTreeSet ℕ) → HasRowsOf old new
    → ((place : ℕ) → place < i → HasOwnRows machine size (slice_index_or ways place no_line) old) → HasOwnRows machine size (slice_index_or ways i no_line) new
    → (place : ℕ) → place < i + 1 → HasOwnRows machine size (slice_index_or ways place no_line) new
own_more machine size ways i old new kept own one place below = elim (cases_eq place i) [
  | inl here ↦ subst (λ (p : ℕ). HasOwnRows machine size (slice_index_or ways p no_line) new) (sym here) one
  | inr other ↦ λ a inside lies stored. kept (a / 16) (own place (omega (arith, below, other)) a inside lies stored)
]

-- a set to which five rows were added has each of them
pub has_five : (old new : BTreeSet ℕ) (first row : ℕ) → Adds old new (is_of_five first) → first ≤ row → row ≤ first + 4 → contains nat_cmp new row ≡ true
has_five old new first row adds low high =
    let five : is_of_five first row ≡ true = grind (arith, nat_tests) in
    adds row ∙ or_right (contains nat_cmp old row) (is_of_five first row) five

-- ---- a stored byte of a core on the bus lies in one of its ways

-- the line in this way of the set of that address, in a cache of such lines, sets and ways
abbrev standing : Contents → ℕ → Geometry → ℕ → ℕ → Line
standing cache size geometry addr way = slice_index_or cache.lines (addr / size % geometry.sets * geometry.ways + way) invalid_line

-- a stored byte of the copy of a line is one of a way of the line's set
in_a_way : (cache : Contents) (addr x : ℕ) → has (copy_at cache addr).marks.bytes x ≡ true
    → (way : ℕ) × (way < cache.geometry.ways) × ((lines.line_in cache addr way).addr ≡ addr) × (has (lines.line_in cache addr way).marks.bytes x ≡ true)
in_a_way cache addr x stored =
    by_way cache addr (λ o. has (copy_or_none (option_map (lines.line_in cache addr) o)).marks.bytes x ≡ true
    → (way : ℕ) × (way < cache.geometry.ways) × ((lines.line_in cache addr way).addr ≡ addr) × (has (lines.line_in cache addr way).marks.bytes x ≡ true))
    (λ way below copy s. (way, below, (is_copy_of-true (lines.line_in cache addr way) addr copy).1, s))
    (λ _ s. absurd (true≢false (sym s ∙ has-zero x))) stored

-- the lines in the first places
pub lines_none : (machine : Machine) (v : CachedView) (core : ℕ) → lines_below machine v core 0 ≡ []
unfolding lines_below
lines_none machine v core = refl

one_more : (machine : Machine) (v : CachedView) (core place : ℕ) → lines_below machine v core (suc place) ≡ lines_below machine v core place ++ line_at machine v core place ∷ []
unfolding lines_below
one_more machine v core place = refl

pub lines_more : (machine : Machine) (v : CachedView) (core place : ℕ) (lines new : List Line) (line : Line) → lines ≡ lines_below machine v core place → line ≡ line_at machine v core place
    → new ≡ lines ++ line ∷ [] → new ≡ lines_below machine v core (place + 1)
lines_more machine v core place lines new line before is pushed =
    pushed ∙ (ap (λ ls. ls ++ line ∷ []) before ∙ (ap (λ l. lines_below machine v core place ++ l ∷ []) is
    ∙ (sym (one_more machine v core place) ∙ sym (ap (lines_below machine v core) (add-one place)))))

-- and by their places
below_last : (machine : Machine) (v : CachedView) (core count : ℕ) → length (lines_below machine v core count) ≡ count
unfolding lines_below
below_last machine v core zero = refl
below_last machine v core (suc count) =
    length_push (lines_below machine v core count) (line_at machine v core count) ∙ (ap (λ n. n + 1) (below_last machine v core count) ∙ add-one count)

pub at_place : (machine : Machine) (v : CachedView) (core count place : ℕ) → place < count
    → slice_index_or (lines_below machine v core count) place no_line ≡ line_at machine v core place
unfolding lines_below
at_place machine v core zero place below = absurd (omega (arith, below))
at_place machine v core (suc count) place below =
    let lines = lines_below machine v core count in
    let long = below_last machine v core count in
    elim (cases_eq place count) [
      | inl here ↦
          get_or_push lines (line_at machine v core count) no_line place (long ∙ sym here) ∙ ap (line_at machine v core) (sym here)
      | inr other ↦
          get_or_append_left lines (line_at machine v core count ∷ []) no_line place (omega (arith, below, other, long))
          ∙ at_place machine v core count place (omega (arith, below, other))
    ]

-- the machine of places is that of the bus
pub places_allowed : (machine : Machine) → IsMachine machine → IsMachine (of_places machine)
places_allowed machine is = record {
  line_length = is.line_length;
  sets = is.sets;
  some_way = is.some_way;
  few_ways = is.few_ways;
  some_line = is.some_line;
  few_lines = is.few_lines;
}

pub places_machine : (machine : Machine) (v : CachedView) → machine ≡ machine_of v → IsCoherent (bus v) → of_places machine ≡ (bus v).shape.machine
places_machine machine v is coherent = ap of_places is ∙ (λ i. record v.machine { apart = sym coherent.of_places i })

module _ (image_machine : Machine) (image_size : ℕ) (v : CachedView) (core a : ℕ) (rows : BTreeSet ℕ) (allowed : IsMachine image_machine)
    (machine_is : of_places image_machine ≡ (bus v).shape.machine) (coherent : IsCoherent (bus v)) (inside : a < image_size)
    (own : (place : ℕ) → place < place_count image_machine → HasOwnRows image_machine image_size (slice_index_or (held (of_places image_machine) v core).ways place no_line) rows) where
  abbrev machine : Machine
  machine = of_places image_machine

  abbrev size : ℕ
  size = image_machine.line_length

  -- where the byte lies
  abbrev at : ℕ
  at = place image_machine image_size a

  in_place : (place : ℕ) → place < place_count machine → (line_at machine v core place).addr ≡ size * (at / size)
      → has (line_at machine v core place).marks.bytes (at % size) ≡ true → contains nat_cmp rows (a / 16) ≡ true
  in_place place below is stored =
      let here = at_place machine v core (place_count machine) place below in
      own place below a inside (sym (ap (λ (l : Line). l.addr) here ∙ is)) (ap (λ (l : Line). has l.marks.bytes (at % size)) here ∙ stored)

  of_core : (o : Option Core) → slice_get v.cores core ≡ o → has ((state_or_none o).copy (size * (at / size))).marks.bytes (at % size) ≡ true → contains nat_cmp rows (a / 16) ≡ true
  of_core None is stored = absurd (true≢false (sym stored ∙ has-zero (at % size)))
  of_core (Some c) is stored =
      let addr = size * (at / size) in
      let found = in_a_way c.cache addr (at % size) stored in
      let below : core < length v.cores = slice_get_within v.cores core c is in
      let length_is : c.cache.line_length ≡ size =
      ap (λ (o : Option Core). (state_or_none o).line_length) (sym is) ∙ (coherent.lengths core below ∙ (coherent.length_of ∙ ap (λ (m : Machine). m.line_length) (sym machine_is))) in
      let geometry_is : c.cache.geometry ≡ geometry_of machine =
      ap (λ (o : Option Core). (state_or_none o).geometry) (sym is) ∙ (coherent.geometries core below ∙ (coherent.geometry_is ∙ ap geometry_of (sym machine_is))) in
      let way : found.0 < machine.ways = subst (λ (g : Geometry). found.0 < g.ways) geometry_is found.1 in
      let sets = sets-within machine.sets allowed.sets in
      let some : 0 < size = omega (arith, place_in size 0 allowed.line_length) in
      let place = addr / size % machine.sets * machine.ways + found.0 in
      let within : place < place_count machine = row-lt machine.sets machine.ways (addr / size % machine.sets) found.0 (mod-lt (addr / size) sets.0) way in
      let set_is : place / machine.ways * size / size % machine.sets ≡ addr / size % machine.sets =
      ap (λ n. n * size / size % machine.sets) (div-mul-add (addr / size % machine.sets) machine.ways found.0 way)
      ∙ (ap (λ n. n % machine.sets) (mul-div_cancel (addr / size % machine.sets) some) ∙ mod-eq_of_lt (mod-lt (addr / size) sets.0)) in
      let way_is : place % machine.ways ≡ found.0 = mod-mul-add (addr / size % machine.sets) machine.ways found.0 way in
      let same : lines.line_in c.cache addr found.0 ≡ line_at machine v core place =
      ap (λ n. standing c.cache n c.cache.geometry addr found.0) length_is
      ∙ (ap (λ g. standing c.cache size g addr found.0) geometry_is
      ∙ (ap (λ n. slice_index_or c.cache.lines (n * machine.ways + found.0) invalid_line) (sym set_is)
      ∙ (ap (standing c.cache size (geometry_of machine) (place / machine.ways * size)) (sym way_is)
      ∙ (ap (λ g. standing c.cache size g (place / machine.ways * size) (place % machine.ways)) (sym geometry_is)
      ∙ (ap (λ n. standing c.cache n c.cache.geometry (place / machine.ways * size) (place % machine.ways)) (sym length_is)
      ∙ ap (λ (o : Option Core). line_of_core o (place / machine.ways * size) (place % machine.ways)) (sym is)))))) in
      in_place place within (ap (λ (l : Line). l.addr) (sym same) ∙ found.2) (ap (λ (l : Line). has l.marks.bytes (at % size)) (sym same) ∙ found.3)

  -- the set has the row of a byte that the core has stored
  pub has_own_row : has ((state_or_none (slice_get v.cores core)).copy (size * (at / size))).marks.bytes (at % size) ≡ true → contains nat_cmp rows (a / 16) ≡ true
  has_own_row stored = of_core (slice_get v.cores core) refl stored

-- ---- what was shown of a core

pub held_whole : (machine : Machine) (v : CachedView) (core : ℕ) (h : Held) → h ≡ held machine v core → length h.ways ≡ place_count machine
held_whole machine v core h is = ap (λ (x : Held). length x.ways) is ∙ below_last machine v core (place_count machine)

pub are_whole : (machine : Machine) (v : CachedView) (count : ℕ) (shown : List Held) → AreHeld machine v count shown → AreWhole machine shown
are_whole machine v count shown are k h there =
    let below : k < count = subst (λ n. k < n) are.count_is (slice_get_within shown k h there) in
    held_whole machine v k h (one_value (slice_get shown k) h (held machine v k) there (are.each k below))

module _ (machine : Machine) (size : ℕ) (v : CachedView) (core : ℕ) (shown : List Held) (rows : BTreeSet ℕ) (are : AreShown machine size shown v) where
  -- this was shown of the core
  pub has_row : (was : Held) → slice_get shown core ≡ Some was → ((place : ℕ) → place < length was.ways → HasOwnRows machine size (slice_index_or was.ways place no_line) rows)
      → (a : ℕ) → a / 16 < row_count (store_view v) → (store_view v).own core a ≡ true → contains nat_cmp rows (a / 16) ≡ true
  has_row was there own a inside stored =
      let below : core < (bus v).shape.cores = subst (λ n. core < n) are.cores_are.count_is (slice_get_within shown core was there) in
      let is : was ≡ held (of_places machine) v core = one_value (slice_get shown core) was (held (of_places machine) v core) there (are.cores_are.each core below) in
      let long : length was.ways ≡ place_count machine = held_whole (of_places machine) v core was is in
      let machine_is : of_places machine ≡ (bus v).shape.machine = places_machine machine v are.machine_is are.coherent in
      has_own_row machine size v core a rows are.allowed.is machine_is are.coherent (omega (arith, inside, are.size_is))
      (subst (λ (h : Held). (place : ℕ) → place < place_count machine → HasOwnRows machine size (slice_index_or h.ways place no_line) rows) is
      (λ place within. own place (omega (arith, within, long))))
      (subst (λ p. has ((state_or_none (slice_get v.cores core)).copy (machine.line_length * (p / machine.line_length))).marks.bytes (p % machine.line_length) ≡ true)
      (λ i. place (sym are.machine_is i) (sym are.size_is i) a)
      (subst (λ n. has ((state_or_none (slice_get v.cores core)).copy (n * (place (machine_of v) v.size a / n))).marks.bytes (place (machine_of v) v.size a % n) ≡ true)
      (are.coherent.length_of ∙ ap (λ (m : Machine). m.line_length) (sym machine_is)) stored))

  same_none : (xs : List Held) (ys : List Core) (k : ℕ) → length xs ≡ length ys → slice_get xs k ≡ None → slice_get ys k ≡ None
  same_none [] [] k same none = refl
  same_none [] (y ∷ ys) k same none = absurd (omega (arith, same))
  same_none (x ∷ xs) [] k same none = absurd (omega (arith, same))
  same_none (x ∷ xs) (y ∷ ys) zero same none = absurd cc
  same_none (x ∷ xs) (y ∷ ys) (suc k) same none = same_none xs ys k (omega (arith, same)) none

  -- no such core is there
  pub has_no_row : slice_get shown core ≡ None → (a : ℕ) → (store_view v).own core a ≡ true → contains nat_cmp rows (a / 16) ≡ true
  has_no_row none a stored =
      let absent = same_none shown v.cores core are.cores_are.count_is none in
      let line = (bus v).line_length in
      let at = place (machine_of v) v.size a in
      let gone : has ((state_or_none (slice_get v.cores core)).copy (line * (at / line))).marks.bytes (at % line) ≡ false =
      ap (λ (o : Option Core). has ((state_or_none o).copy (line * (at / line))).marks.bytes (at % line)) absent ∙ has-zero (at % line) in
      absurd (true≢false (sym stored ∙ gone))
