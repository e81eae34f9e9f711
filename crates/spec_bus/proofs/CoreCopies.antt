-- What a core holds after its parts change.
use Rattle.std.proofs.Common.{◌≡◌, ◌≢◌, ℕ, ◌<◌, ◌≤◌, nat_lt, ◌==◌, ◌&&◌, length, slice_get, slice_set, Bool, true, false, cond, List, Option, Some, None, slice_index, refl, sym, ap, subst, ◌∙◌, arith, ne_eqb}
use Rattle.std.proofs.Math.Path.{fun_ext}
use Rattle.std.proofs.lemmas.Bool.Decides.{nat_tests}
use Rattle.spec_states.specs.declared.next.Next.{Next}
use Rattle.spec_states.specs.Copies.{LineCopy, no_copy}
use Rattle.spec_states.specs.States.{is_valid}
use Rattle.cache_lines.specs.Changes.{IsFound, IsAbsent, CopiesAreFilled, CopiesChange, StandIn}
use Rattle.cache_lines.specs.Lines.{Contents, Geometry, is_copy_of, way_at}
use Rattle.cache_lines.specs.Protocol.{copy_at, changed_copy, copy_with_number}
use Rattle.cache_lines.proofs.CopyLaws.{copies-refilled, copies-found}
use Rattle.orb.specs.Lines.{Buffer}
use Rattle.violations.specs.declared.attempt.Attempt.{Attempt}
use Rattle.std.proofs.lemmas.List.{length-set, get_or-set_other}
use Rattle.std.proofs.lemmas.Grind.{get_or-set_at}
use Rattle.std.proofs.lemmas.Option.{slice_get_past, slice_get-get_or}
use Rattle.std.proofs.Math.ListN.{get_or}
use Rattle.bus_states.specs.Bus.{CoreState, no_core}
use Rattle.spec_bus.specs.declared.bus_core.Core.{Core}
use Rattle.spec_bus.specs.CoreStates.{state_of}
use Rattle.spec_bus.specs.Parts.{room_in, state_or_none, core_at, line_or_none, line_at}
use Rattle.bus_states.specs.Messages.{changed_core, without_line, leaves, way_with}
use Rattle.bus_states.proofs.Copies.{made}

abbrev pub state_record : ℕ → Geometry → (ℕ → LineCopy) → (ℕ → Option ℕ) → Buffer → Option Attempt → CoreState
state_record line_length geometry copy way buffer attempt =
    record { line_length = line_length; geometry = geometry; copy = copy; way = way; buffer = buffer; attempt = attempt }

-- the lines that are held stand in these ways
abbrev pub standing : (ℕ → LineCopy) → (ℕ → Option ℕ) → ℕ → Option ℕ
standing copy way a = cond (is_valid (copy a).state) (way a) None

pub same_state : (length length2 : ℕ) (geometry geometry2 : Geometry) (copy copy2 : ℕ → LineCopy) (way way2 : ℕ → Option ℕ) (buffer buffer2 : Buffer) (attempt attempt2 : Option Attempt)
    → length ≡ length2 → geometry ≡ geometry2 → ((a : ℕ) → copy a ≡ copy2 a) → ((a : ℕ) → way a ≡ standing copy way2 a) → buffer ≡ buffer2 → attempt ≡ attempt2
    → state_record length geometry copy way buffer attempt ≡ state_record length2 geometry2 copy2 (λ a. standing copy2 way2 a) buffer2 attempt2
same_state length length2 geometry geometry2 copy copy2 way way2 buffer buffer2 attempt attempt2 e s f w g h =
    rw (
      e,
      s,
      g,
      h,
      fun_ext (λ a. w a ∙ ap (λ (copy : LineCopy). cond (is_valid copy.state) (way2 a) None) (f a)),
      fun_ext f,
    ) refl

-- the copies of a cache in which one line changes
pub changed_found : (old new : Contents) (addr way : ℕ) (next : Next) (cells : List ℕ) → IsFound old addr way
    → CopiesAreFilled old new way (record { addr = addr; state = next.state; marks = next.marks; cells = cells }) → (a : ℕ)
    → copy_at new a ≡ cond (addr == a) (made next.state next.marks (slice_index cells)) (copy_at old a)
changed_found old new addr way next cells found filled =
    copies-refilled old new addr way (record { addr = addr; state = next.state; marks = next.marks; cells = cells }) found refl filled

-- of a cache that does not hold it
pub changed_absent : (old : Contents) (addr : ℕ) (next : Next) (cell : ℕ → ℕ) → IsAbsent old addr
    → (is_valid next.state ≡ true → is_valid (copy_at old addr).state ≡ true) → (a : ℕ)
    → copy_at old a ≡ cond (addr == a) (made next.state next.marks cell) (copy_at old a)
changed_absent old addr next cell absent held a =
    elim (addr == a) as (λ b. (addr == a) ≡ b → copy_at old a ≡ cond b (made next.state next.marks cell) (copy_at old a)) [
      | true ↦ λ e.
          let at : addr ≡ a = grind (arith, nat_tests) in
          rw (← at) (absent.copy ∙ none (is_valid next.state) (λ v. ap (λ (copy : LineCopy). is_valid copy.state) (sym absent.copy) ∙ held v))
      | false ↦ λ e. refl
    ] refl
  where
    none : (b : Bool) → (b ≡ true → false ≡ true) → no_copy ≡ cond b (record { state = next.state; marks = next.marks; cell = cell }) no_copy
    none true f = let x : false ≡ true = f refl in cc
    none false f = refl

-- bytes are written into a copy
pub written_found : (old new : Contents) (addr way offset width value : ℕ) → IsFound old addr way
    → CopiesChange old new addr way (copy_with_number offset width value) → (a : ℕ)
    → copy_at new a ≡ cond (addr == a) (copy_with_number offset width value (copy_at old addr)) (copy_at old a)
written_found old new addr way offset width value found changes a =
    copies-found old new addr way (copy_with_number offset width value) found changes a
    ∙ elim (addr == a) as (λ b. (addr == a) ≡ b → cond b (copy_with_number offset width value (copy_at old a)) (copy_at old a) ≡ cond b (copy_with_number offset width value (copy_at old addr)) (copy_at old a)) [
      | true ↦ λ e. let at : addr ≡ a = grind (arith, nat_tests) in ap (λ a. copy_with_number offset width value (copy_at old a)) (sym at)
      | false ↦ λ e. refl
    ] refl

-- the state and the marks of a copy change
pub marked_found : (old new : Contents) (addr way : ℕ) (next : Next) → IsFound old addr way
    → CopiesChange old new addr way (λ copy. changed_copy copy next) → (a : ℕ)
    → copy_at new a ≡ cond (addr == a) (made next.state next.marks (copy_at old addr).cell) (copy_at old a)
marked_found old new addr way next found changes a =
    copies-found old new addr way (λ copy. changed_copy copy next) found changes a
    ∙ elim (addr == a) as (λ b. (addr == a) ≡ b → cond b (changed_copy (copy_at old a) next) (copy_at old a) ≡ cond b (changed_copy (copy_at old addr) next) (copy_at old a)) [
      | true ↦ λ e. let at : addr ≡ a = grind (arith, nat_tests) in ap (λ a. changed_copy (copy_at old a) next) (sym at)
      | false ↦ λ e. refl
    ] refl

-- the copies of a cache into which a line comes
pub filled_absent : (old new : Contents) (addr way : ℕ) (next : Next) (cells : List ℕ) → is_valid next.state ≡ true
    → CopiesAreFilled old new way (record { addr = addr; state = next.state; marks = next.marks; cells = cells }) → (a : ℕ)
    → copy_at new a ≡ cond (addr == a) (made next.state next.marks (slice_index cells))
    (cond (leaves (Some (room_in old addr way)) a) no_copy (copy_at old a))
filled_absent old new addr way next cells valid filled a = rw valid (rw valid at (filled a))

-- ---- the ways of the lines

-- where a line changes in its way
pub way_found : (old new : Contents) (addr way : ℕ) (next : Next) (cells : List ℕ) → way_at old addr ≡ Some way
    → StandIn new (λ a. cond (is_copy_of (record { addr = addr; state = next.state; marks = next.marks; cells = cells }) a) (Some way) (way_at old a))
    → (a : ℕ) → way_at new a ≡ standing (copy_at new) (way_at old) a
way_found old new addr way next cells found ways a =
    ways a ∙ ap (λ (w : Option ℕ). cond (is_valid (copy_at new a).state) w None) (pick (is_valid next.state && (addr == a)) refl)
  where
    at : (v : Bool) → (v && (addr == a)) ≡ true → addr ≡ a
    at v e = grind (arith, nat_tests)

    pick : (b : Bool) → (is_valid next.state && (addr == a)) ≡ b → cond b (Some way) (way_at old a) ≡ way_at old a
    pick true e = sym found ∙ ap (way_at old) (at (is_valid next.state) e)
    pick false e = refl

-- where a line comes into a way
pub way_filled : (old new : Contents) (addr way : ℕ) (next : Next) (cells : List ℕ) → is_valid next.state ≡ true
    → StandIn new (λ a. cond (is_copy_of (record { addr = addr; state = next.state; marks = next.marks; cells = cells }) a) (Some way) (way_at old a))
    → (a : ℕ) → way_at new a ≡ standing (copy_at new) (λ a. way_with (Some (room_in old addr way)) addr (way_at old) a) a
way_filled old new addr way next cells valid ways a = rw valid at (ways a)

-- a core that holds nothing
pub idle_way : (b : Bool) (none : Option ℕ) → none ≡ cond b none none
idle_way true none = refl
idle_way false none = refl

-- ---- a list of cores

-- a core that stands there
pub state_get : (cores : List Core) (k : ℕ) (core : Core) → k < length cores → core ≡ get_or cores k core → state_of core ≡ core_at cores k
state_get cores k core lt e = ap state_of e ∙ ap state_or_none (sym (slice_get-get_or cores k core lt))

pub line_get : (cores : List Core) (k addr way : ℕ) (core : Core) → k < length cores → core ≡ get_or cores k core
    → Some (room_in core.cache addr way) ≡ line_at cores k addr (Some way)
line_get cores k addr way core lt e =
    ap (λ (core : Core). Some (room_in core.cache addr way)) e
    ∙ ap (λ (core : Option Core). line_or_none core addr (Some way)) (sym (slice_get-get_or cores k core lt))

get_set : (xs : List Core) (p i : ℕ) (y : Core) → p < length xs
    → slice_get (slice_set xs p y) i ≡ cond (i == p) (Some y) (slice_get xs i)
get_set xs p i y h =
    elim (i == p) as (λ b. (i == p) ≡ b → slice_get (slice_set xs p y) i ≡ cond b (Some y) (slice_get xs i)) [
      | true ↦ λ e.
          let at : i ≡ p = grind (arith, nat_tests) in
          rw at
          (slice_get-get_or (slice_set xs p y) p y (omega (arith, length-set xs p y))
          ∙ ap (λ x. Some x) (get_or-set_at xs p p y y refl h))
      | false ↦ λ e.
          let away : i ≢ p = grind (arith, nat_tests) in
          elim (nat_lt i (length xs)) as (λ b. nat_lt i (length xs) ≡ b → slice_get (slice_set xs p y) i ≡ slice_get xs i) [
            | true ↦ λ g.
                let inside : i < length xs = grind (arith, nat_tests) in
                slice_get-get_or (slice_set xs p y) i y (omega (arith, length-set xs p y))
                ∙ (ap (λ x. Some x) (get_or-set_other xs p i y y away) ∙ sym (slice_get-get_or xs i y inside))
            | false ↦ λ g.
                let past : length xs ≤ i = grind (arith, nat_tests) in
                slice_get_past (slice_set xs p y) i (omega (arith, length-set xs p y)) ∙ sym (slice_get_past xs i past)
          ] refl
    ] refl

-- the cores, where one was replaced
pub state_set : (cores : List Core) (k : ℕ) (core : Core) → k < length cores → (j : ℕ)
    → core_at (slice_set cores k core) j ≡ cond (j == k) (state_of core) (core_at cores j)
state_set cores k core lt j = rw (get_set cores k j core lt) (choice (j == k) (slice_get cores j))
  where
    choice : (b : Bool) (other : Option Core) → state_or_none (cond b (Some core) other) ≡ cond b (state_of core) (state_or_none other)
    choice true other = refl
    choice false other = refl

-- one core of the list is this one now
pub record IsCoreSet (old new : List Core) (k : ℕ) (state : CoreState) : Type 0 where
  pub count : length new ≡ length old
  pub others : (j : ℕ) → j ≢ k → slice_get new j ≡ slice_get old j
  pub core : (j : ℕ) → core_at new j ≡ cond (j == k) state (core_at old j)

-- it has changed so
pub core_set : (cores : List Core) (k : ℕ) (old new : Core) (change : CoreState → CoreState) → k < length cores → old ≡ get_or cores k old
    → state_of new ≡ change (state_of old) → IsCoreSet cores (slice_set cores k new) k (change (core_at cores k))
core_set cores k old new change lt e changed =
    record {
      count = length-set cores k new;
      others = λ j away. get_set cores k j new lt ∙ rw (ne_eqb j k away) refl;
      core =
          λ j. state_set cores k new lt j
          ∙ ap (λ (state : CoreState). cond (j == k) state (core_at cores j)) (changed ∙ ap change (state_get cores k old lt e));
    }

-- a line has come into it
pub core_filled : (cores : List Core) (k addr way : ℕ) (old new : Core) (next : Next) (cell : ℕ → ℕ) → k < length cores → old ≡ get_or cores k old
    → state_of new ≡ changed_core addr next cell (without_line addr (Some (room_in old.cache addr way)) (state_of old))
    → IsCoreSet cores (slice_set cores k new) k (changed_core addr next cell (without_line addr (line_at cores k addr (Some way)) (core_at cores k)))
core_filled cores k addr way old new next cell lt e filled =
    core_set cores k old new (λ (core : CoreState). changed_core addr next cell (without_line addr (line_at cores k addr (Some way)) core)) lt e
    (filled ∙ rw (← line_get cores k addr way old lt e) refl)

-- a core that stands where it stood
pub core_same : (old mid : List Core) (k : ℕ) (core : Core) → length mid ≡ length old → slice_get mid k ≡ slice_get old k → k < length old
    → core ≡ get_or mid k core → state_of core ≡ core_at old k
core_same old mid k core count own lt e = state_get mid k core (subst (λ n. k < n) (sym count) lt) e ∙ ap state_or_none own

-- past the last core there is none
pub core_past : (cores : List Core) (k : ℕ) → length cores ≤ k → core_at cores k ≡ no_core
core_past cores k past = ap state_or_none (slice_get_past cores k past)
