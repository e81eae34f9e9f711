-- The line in a place of a cache is the one that the bus has there.
use Rattle.std.proofs.Common.{◌≡◌, ℕ, zero, suc, ◌*◌, ◌/◌, ◌%◌, ◌<◌, ◌≤◌, ◌==◌, ◌&&◌, ◌++◌, Bool, true, false, true≢false, List, Option, Some, None, option_map, length, slice_get, inl, inr, refl, sym, ap, subst, ◌∙◌, arith}
use Rattle.std.specs.List.{find, range_with_len}
use Rattle.std.proofs.Math.Nat.{mod-lt, mod-eq_of_lt, mul-div_cancel, div-lt_iff_lt-mul}
use Rattle.std.proofs.lemmas.Bool.{and_parts, false_from_ne_true, eqb-true}
use Rattle.std.proofs.lemmas.Option.{slice_get_cases}
use Rattle.rv32_image.specs.declared.machine.Machine.{Machine}
use Rattle.rv32_image.specs.Machine.{IsMachine}
use Rattle.rv32_image.proofs.Bounds.{place_in}
use Rattle.spec_states.specs.Copies.{LineCopy}
use Rattle.spec_states.specs.States.{is_valid}
use Rattle.cache_lines.specs.declared.line.Line.{Line}
use Rattle.cache_lines.specs.Lines.{Contents, Geometry, geometry_of, set_of, line_in, is_copy_of, way_at}
use Rattle.cache_lines.specs.Placed.{IsPlaced}
use Rattle.cache_lines.specs.Protocol.{copy_at}
use Rattle.cache_lines.proofs.CopyLaws.{copy_at-own}
use Rattle.cache_lines.proofs.Firsts.{first_is, found_first, none_is}
use Rattle.cache_lines.proofs.LineLaws.{is_copy_of-true, is_copy_of-own, line_in-same_set, way_at-own}
use Rattle.bus_states.specs.Coherent.{IsCoherent}
use Rattle.spec_bus.specs.declared.bus_core.Core.{Core}
use Rattle.spec_bus.specs.Cached.{CachedView, bus, line_of_core}
use Rattle.spec_bus.specs.Laws.{IsPlacedCore}
use Rattle.spec_bus.specs.Parts.{state_or_none}
use Rattle.turn_steps.specs.Caches.{bus_changes, changes, core_changes, held, held_changes, is_way, line_at, place_count, standing, standing_at, standing_in}
use Rattle.turn_steps.specs.Places.{Standing, changed, orb_line, way_changes}
use Rattle.turn_steps.proofs.BusRows.{at_place}
use Rattle.turn_steps.proofs.Places.{way_changes-same}
use Rattle.memory_bytes.proofs.SmallFacts.{equal_both}

-- ---- a cache

its_way : (w : ℕ) (o : Option ℕ) → is_way w o ≡ true → o ≡ Some w
its_way w None e = absurd cc
its_way w (Some v) e = ap (λ (v : ℕ). Some v) (eqb-true v w e)

module _ (cache : Contents) (placed : IsPlaced cache) (size place : ℕ) (there : place < cache.geometry.sets * cache.geometry.ways)
    (inside : (a : ℕ) → is_valid (copy_at cache a).state ≡ true → a < size) where
  abbrev set : ℕ
  set = place / cache.geometry.ways

  abbrev way : ℕ
  way = place % cache.geometry.ways

  abbrev first : ℕ
  first = set * cache.line_length

  abbrev line : Line
  line = line_in cache first way

  -- the line at this address stands there
  abbrev stands : ℕ → Bool
  stands a = (a / cache.line_length % cache.geometry.sets == set) && is_way way (way_at cache a)

  way_lt : way < cache.geometry.ways
  way_lt = mod-lt place placed.geometry_is.some_way

  set_lt : set < cache.geometry.sets
  set_lt = (div-lt_iff_lt-mul placed.geometry_is.some_way).1 there

  set_is : set_of cache first ≡ set
  set_is =
      let some : 0 < cache.line_length = omega (arith, place_in cache.line_length 0 placed.length_is) in
      ap (λ n. n % cache.geometry.sets) (mul-div_cancel set some) ∙ mod-eq_of_lt set_lt

  -- then it is the line's
  is_its : (a : ℕ) → stands a ≡ true → is_copy_of line a ≡ true
  is_its a e =
      let two = and_parts (a / cache.line_length % cache.geometry.sets == set) (is_way way (way_at cache a)) e in
      let same_set : set_of cache a ≡ set_of cache first = eqb-true (set_of cache a) set two.0 ∙ sym set_is in
      let found = found_first 0 cache.geometry.ways (λ w. is_copy_of (line_in cache a w) a) way (its_way way (way_at cache a) two.1) in
      ap (λ (l : Line). is_copy_of l a) (line_in-same_set cache a first way same_set) ∙ found.passes

  valid_found : is_valid line.state ≡ true → find stands (range_with_len 0 size) ≡ Some line.addr
  valid_found v =
      let x = line.addr in
      let in_set : set_of cache x ≡ set_of cache first = placed.in_set first way way_lt v in
      let here : is_copy_of (line_in cache x way) x ≡ true =
      ap (λ (l : Line). is_copy_of l x) (sym (line_in-same_set cache x first way in_set)) ∙ is_copy_of-own line v in
      first_is 0 size stands x (record {
        from = omega arith;
        below = omega (arith, inside x (ap (λ (copy : LineCopy). is_valid copy.state) (copy_at-own cache placed first way way_lt v) ∙ v));
        passes = ap (λ o. (set_of cache x == set) && is_way way o) (way_at-own cache placed x way way_lt here) ∙ equal_both (set_of cache x) set way way (in_set ∙ set_is) refl;
        first = λ j _ before. false_from_ne_true (stands j) (λ e. let p = is_copy_of-true line j (is_its j e) in absurd (omega (arith, before, p.1)));
      })

  invalid_found : is_valid line.state ≡ false → find stands (range_with_len 0 size) ≡ None
  invalid_found v =
      none_is 0 size stands (λ j _ _. false_from_ne_true (stands j) (λ e. true≢false (sym (is_copy_of-true line j (is_its j e)).0 ∙ v)))

  abbrev standing_by : Option Standing
  standing_by = option_map (λ a. record { addr = a; copy = copy_at cache a }) (find stands (range_with_len 0 size))

  pub standing_is : standing line ≡ standing_by
  standing_is = by (is_valid line.state) refl
    where
      by : (b : Bool) → is_valid line.state ≡ b → standing line ≡ standing_by
      by true v =
          rw (v, valid_found v)
          (ap (λ (copy : LineCopy). Some (record { addr = line.addr; copy = copy })) (sym (copy_at-own cache placed first way way_lt v)))
      by false v = rw (v, invalid_found v) refl

-- ---- a core of a bus

-- what stands in a place, by these
abbrev by_core : ℕ → ℕ → Option Core → ℕ → Geometry → Option Standing
by_core size place core n g =
    option_map (λ addr. record { addr = addr; copy = (state_or_none core).copy addr })
    (find (λ addr. (addr / n % g.sets == place / g.ways) && is_way (place % g.ways) ((state_or_none core).way addr)) (range_with_len 0 size))

pub standing_core : (machine : Machine) (v : CachedView) (core place : ℕ) → IsCoherent (bus v) → IsMachine machine → machine ≡ (bus v).shape.machine
    → core < (bus v).shape.cores → IsPlacedCore v.cores core → place < place_count machine → standing (line_at machine v core place) ≡ standing_in (bus v) core place
standing_core machine v core place coherent allowed machine_is below placed there = of (slice_get v.cores core) refl
  where
    of : (o : Option Core) → slice_get v.cores core ≡ o → standing (line_at machine v core place) ≡ standing_in (bus v) core place
    of None none = absurd (omega (arith, below, past none))
      where
        past : slice_get v.cores core ≡ None → length v.cores ≤ core
        past none = elim (slice_get_cases v.cores core).1 [
          | inl within ↦ absurd (let both : None ≡ Some within.0 = sym none ∙ within.2 in cc)
          | inr beyond ↦ beyond.0
        ]
    of (Some c) is =
        let n_is : c.cache.line_length ≡ (bus v).line_length = ap (λ (o : Option Core). (state_or_none o).line_length) (sym is) ∙ coherent.lengths core below in
        let g_is : c.cache.geometry ≡ (bus v).geometry = ap (λ (o : Option Core). (state_or_none o).geometry) (sym is) ∙ coherent.geometries core below in
        let length_is : c.cache.line_length ≡ machine.line_length = n_is ∙ (coherent.length_of ∙ ap (λ (m : Machine). m.line_length) (sym machine_is)) in
        let geometry_is : c.cache.geometry ≡ geometry_of machine = g_is ∙ (coherent.geometry_is ∙ ap geometry_of (sym machine_is)) in
        let size = (bus v).shape.size in
        let inside : (a : ℕ) → is_valid (copy_at c.cache a).state ≡ true → a < size = λ a valid.
        let fits = coherent.inside core a (ap (λ (o : Option Core). is_valid ((state_or_none o).copy a).state) is ∙ valid) in
        let some = place_in (bus v).line_length 0 coherent.length_is in
        omega (arith, fits, some) in
        let within : place < c.cache.geometry.sets * c.cache.geometry.ways = subst (λ (g : Geometry). place < g.sets * g.ways) (sym geometry_is) there in
        ap (λ (o : Option Core). standing (line_of_core o (place / machine.ways * machine.line_length) (place % machine.ways))) is
        ∙ (ap (λ n. standing (line_in c.cache (place / machine.ways * n) (place % machine.ways))) (sym length_is)
        ∙ (ap (λ (g : Geometry). standing (line_in c.cache (place / g.ways * c.cache.line_length) (place % g.ways))) (sym geometry_is)
        ∙ (standing_is c.cache (placed c is) size place within inside
        ∙ (ap (λ n. by_core size place (Some c) n c.cache.geometry) n_is
        ∙ (ap (by_core size place (Some c) (bus v).line_length) g_is
        ∙ ap (λ (o : Option Core). by_core size place o (bus v).line_length (bus v).geometry) (sym is))))))

-- ---- all cores

-- what a call of a view's text rests on
pub record IsOn (machine : Machine) (v : CachedView) : Type 0 where
  pub coherent : IsCoherent (bus v)
  pub allowed : IsMachine machine
  pub machine_is : machine ≡ (bus v).shape.machine
  pub placed : (k : ℕ) → k < (bus v).shape.cores → IsPlacedCore v.cores k

standing_held : (machine : Machine) (v : CachedView) (core : ℕ) → IsOn machine v → core < (bus v).shape.cores → (place : ℕ) → place < place_count machine
    → standing_at (held machine v core).ways place ≡ standing_in (bus v) core place
standing_held machine v core on below place there =
    ap standing (at_place machine v core (place_count machine) place there)
    ∙ standing_core machine v core place on.coherent on.allowed on.machine_is below (on.placed core below) there

core_is : (machine : Machine) (old now : CachedView) (core : ℕ) → IsOn machine old → IsOn machine now → core < (bus old).shape.cores → core < (bus now).shape.cores
    → changes machine core (held machine old core) (held machine now core) ≡ core_changes core (bus old) (bus now)
core_is machine old now core was is below_old below_now =
    ap (λ t. t ++ orbs)
    (way_changes-same machine core (standing_at (held machine old core).ways) (standing_at (held machine now core).ways) (standing_in (bus old) core) (standing_in (bus now) core) (place_count machine)
    (standing_held machine old core was below_old) (standing_held machine now core is below_now))
    ∙ ap (λ (m : Machine). way_changes m core (standing_in (bus old) core) (standing_in (bus now) core) (place_count m) ++ orbs) is.machine_is
  where
    orbs : List ℕ
    orbs = changed (orb_line core ((bus old).core core).buffer.lines) (orb_line core ((bus now).core core).buffer.lines)

pub changes_are : (machine : Machine) (old now : CachedView) (count : ℕ) → IsOn machine old → IsOn machine now → count ≤ (bus old).shape.cores → count ≤ (bus now).shape.cores
    → held_changes machine old now count ≡ bus_changes (bus old) (bus now) count
unfolding held_changes bus_changes
changes_are machine old now zero was is few_old few_now = refl
changes_are machine old now (suc count) was is few_old few_now =
    rw (changes_are machine old now count was is (omega (arith, few_old)) (omega (arith, few_now)))
    (ap (λ t. bus_changes (bus old) (bus now) count ++ t) (core_is machine old now count was is (omega (arith, few_old)) (omega (arith, few_now))))
