-- Two caches that hold the same copies in the same ways have the same room for each line, so the same calls make the same of
-- their buses.
use Rattle.std.proofs.Common.{◌≡◌, ℕ, ◌/◌, ◌%◌, ◌<◌, ◌==◌, ◌&&◌, Bool, true, false, cond, min, not, List, [], ◌∷◌, Option, Some, None, IfSome, option_map, slice_get, true≢false, refl, sym, ap, subst, ◌∙◌}
use Rattle.std.specs.List.{find, range_with_len}
use Rattle.std.specs.Option.{option_or}
use Rattle.spec_states.specs.declared.line.LineState.{LineState}
use Rattle.spec_states.specs.declared.line.LineState.TheVariants.{I, S, E, M, SpS, SpE}
use Rattle.spec_states.specs.declared.next.Next.{Next}
use Rattle.spec_states.specs.Copies.{LineCopy, no_copy}
use Rattle.spec_states.specs.States.{is_valid, is_modified, is_speculative}
use Rattle.cache_lines.specs.declared.line.Line.{Line}
use Rattle.cache_lines.specs.Cells.{cell_of}
use Rattle.cache_lines.specs.Changes.{victim_of, is_invalid, is_unmarked}
use Rattle.cache_lines.specs.Lines.{Contents, Geometry, set_of, line_in, is_copy_of, lowest_way, way_at}
use Rattle.rv32_image.specs.Machine.{is_line_length}
use Rattle.rv32_image.specs.Places.{place}
use Rattle.spec_states.proofs.RowLaws.{invalid-unmarked}
use Rattle.cache_lines.specs.Placed.{IsPlaced}
use Rattle.cache_lines.specs.Protocol.{copy_at, copy_of_line, changed_copy, copy_with_number}
use Rattle.cache_lines.proofs.CopyLaws.{copy_at-line, copy_at-own}
use Rattle.cache_lines.proofs.LineLaws.{is_copy_of-true, is_copy_of-own, line_in-same_set}
use Rattle.cache_lines.proofs.LineLaws.{way_at-own}
use Rattle.cache_lines.proofs.Firsts.{find_same, found_first}
use Rattle.cache_lines.proofs.Victims.{victim-unmarked}
use Rattle.violations.specs.declared.step.WaitCause.TheVariants.{NoWay, OrbFull, OrbBusy}
use Rattle.orb.specs.Lines.{is_full}
use Rattle.bus_states.specs.declared.notice.Notice.TheVariants as notice
use Rattle.bus_states.specs.Bus.{CoreState, Bus, line_of, offset_of}
use Rattle.bus_states.specs.Messages.{Room, Message, message_of, is_alone, is_busy, heard_core, changed_core, with_copy, without_line, with_line, with_victim, after_message}
use Rattle.bus_states.specs.Attempts.{with_core}
use Rattle.bus_states.specs.Speculative.{own, holds_line, room_for, no_room, kept_line, load_next, after_load, load_wait, store_next, owns, after_claim, with_bytes, after_store, store_wait}
use Rattle.bus_states.specs.Straight.{after_straight_load, after_straight_store, straight_store_message, unmarked_next, stores_alone}
use Rattle.spec_bus.specs.declared.bus_core.Core.{Core}
use Rattle.spec_bus.specs.Cached.{CachedView, bus, place_of, room, seen}
use Rattle.spec_bus.specs.Parts.{room_in, state_or_none, line_or_none, victim_or_none}
use Rattle.violations.specs.Calls.{Call, Reserve, Begin, Load, Store, Publish, StraightLoad, StraightStore, Leave, Cancel, IsFixed, FixWaits, RoomsJoin}
use Rattle.violations.specs.View.{StoreView}
use Rattle.violations.specs.Rule.{IsSameView}
use Rattle.bus_states.specs.Views.{view_of}
use Rattle.spec_bus.specs.Cached.{store_view, waits}
use Rattle.spec_bus.specs.Laws.{after_call, at_place, unless_waiting, IsAfter, IsPlacedCore, IsPlacedFor, Lead, AreAlike, Makes, HoldTheSame}

-- ---- one line

-- both are invalid, or both are the same copy of one line
pub record IsOneLine (l m : Line) : Type 0 where
  pub valid : is_valid l.state ≡ is_valid m.state
  pub addr : is_valid l.state ≡ true → l.addr ≡ m.addr
  pub copy : is_valid l.state ≡ true → copy_of_line l ≡ copy_of_line m

-- a way of a line has its copy
way_is : (cache : Contents) (x w : ℕ) → way_at cache x ≡ Some w → is_copy_of (line_in cache x w) x ≡ true
way_is cache x w e = (found_first 0 cache.geometry.ways (λ v. is_copy_of (line_in cache x v) x) w e).passes

module _ (c d : Contents) (placed : IsPlaced c) (placed2 : IsPlaced d) (length : c.line_length ≡ d.line_length) (geometry : c.geometry ≡ d.geometry)
    (copies : (x : ℕ) → copy_at c x ≡ copy_at d x) (ways : (x : ℕ) → way_at c x ≡ way_at d x) where
  -- a valid line stands in the other cache too
  there : (a w : ℕ) → w < c.geometry.ways → is_valid (line_in c a w).state ≡ true → is_copy_of (line_in d a w) (line_in c a w).addr ≡ true
  there a w lt valid =
      let x : ℕ = (line_in c a w).addr in
      let set : set_of c x ≡ set_of c a = placed.in_set a w lt valid in
      let set2 : set_of d x ≡ set_of d a =
      subst (λ (g : Geometry). x / d.line_length % g.sets ≡ a / d.line_length % g.sets) geometry
      (subst (λ (n : ℕ). x / n % c.geometry.sets ≡ a / n % c.geometry.sets) length set) in
      let here : is_copy_of (line_in c x w) x ≡ true =
      ap (λ (l : Line). is_copy_of l x) (sym (line_in-same_set c x a w set)) ∙ is_copy_of-own (line_in c a w) valid in
      let found = way_is d x w (sym (ways x) ∙ way_at-own c placed x w lt here) in
      ap (λ (l : Line). is_copy_of l x) (line_in-same_set d x a w set2) ∙ found

  in_other : (w : ℕ) → w < c.geometry.ways → w < d.geometry.ways
  in_other w lt = subst (λ (g : Geometry). w < g.ways) geometry lt

  pub same_copy : (a w : ℕ) → w < c.geometry.ways → is_valid (line_in c a w).state ≡ true → copy_of_line (line_in c a w) ≡ copy_of_line (line_in d a w)
  same_copy a w lt valid =
      sym (copy_at-own c placed a w lt valid)
      ∙ (copies (line_in c a w).addr ∙ copy_at-line d placed2 a w (line_in c a w).addr (in_other w lt) (there a w lt valid))

one_line : (c d : Contents) → IsPlaced c → IsPlaced d → c.line_length ≡ d.line_length → c.geometry ≡ d.geometry → ((x : ℕ) → copy_at c x ≡ copy_at d x)
    → ((x : ℕ) → way_at c x ≡ way_at d x) → (a w : ℕ) → w < c.geometry.ways → IsOneLine (line_in c a w) (line_in d a w)
one_line c d p q length geometry copies ways a w lt = record {
  valid = both (is_valid (line_in c a w).state) (is_valid (line_in d a w).state) refl refl;
  addr = λ v. sym (is_copy_of-true (line_in d a w) (line_in c a w).addr (there c d p q length geometry copies ways a w lt v)).1;
  copy = same_copy c d p q length geometry copies ways a w lt;
}
  where
    both : (j k : Bool) → is_valid (line_in c a w).state ≡ j → is_valid (line_in d a w).state ≡ k → j ≡ k
    both true true e f = refl
    both false false e f = refl
    both true false e f =
        let valid = (is_copy_of-true (line_in d a w) (line_in c a w).addr (there c d p q length geometry copies ways a w lt e)).0 in
        absurd (true≢false (sym valid ∙ f))
    both false true e f =
        let valid = (is_copy_of-true (line_in c a w) (line_in d a w).addr (there d c q p (sym length) (sym geometry) (λ x. sym (copies x)) (λ x. sym (ways x)) a w (in_other c d p q length geometry copies ways w lt) f)).0 in
        absurd (true≢false (sym valid ∙ e))

pub invalid_unmodified : (s : LineState) → is_valid s ≡ false → is_modified s ≡ false
invalid_unmodified I e = refl
invalid_unmodified S e = absurd (true≢false e)
invalid_unmodified E e = absurd (true≢false e)
invalid_unmodified M e = absurd (true≢false e)
invalid_unmodified SpS e = absurd (true≢false e)
invalid_unmodified SpE e = absurd (true≢false e)

same_marked : (l m : Line) → IsOneLine l m → is_speculative l.state ≡ is_speculative m.state
same_marked l m h = by (is_valid l.state) refl
  where
    by : (b : Bool) → is_valid l.state ≡ b → is_speculative l.state ≡ is_speculative m.state
    by true e = ap (λ (x : LineCopy). is_speculative x.state) (h.copy e)
    by false e = invalid-unmarked l.state e ∙ sym (invalid-unmarked m.state (sym h.valid ∙ e))

same_is_copy : (l m : Line) → IsOneLine l m → (a : ℕ) → is_copy_of l a ≡ is_copy_of m a
same_is_copy l m h a = by (is_valid l.state) refl
  where
    by : (b : Bool) → is_valid l.state ≡ b → is_copy_of l a ≡ is_copy_of m a
    by true e = (λ i. h.valid i && (h.addr e i == a))
    by false e = ap (λ b. b && (l.addr == a)) e ∙ sym (ap (λ b. b && (m.addr == a)) (sym h.valid ∙ e))

-- ---- one room

abbrev pub IsOneRoom : Option Room → Option Room → Type 0
IsOneRoom None None = Unit {0}
IsOneRoom None (Some s) = ⊥
IsOneRoom (Some r) None = ⊥
IsOneRoom (Some r) (Some s) = (r.way ≡ s.way) × IsOneLine r.line s.line

cache_room : (c d : Contents) → IsPlaced c → IsPlaced d → c.line_length ≡ d.line_length → c.geometry ≡ d.geometry → ((x : ℕ) → copy_at c x ≡ copy_at d x)
    → ((x : ℕ) → way_at c x ≡ way_at d x) → (a : ℕ) → IsOneRoom (option_map (room_in c a) (victim_of c a)) (option_map (room_in d a) (victim_of d a))
cache_room c d p q length geometry copies ways a =
    let victims : victim_of c a ≡ victim_of d a =
    (λ i. option_or (lowest is_invalid (λ w lt. ap not (one w lt).valid) i) (lowest is_unmarked (λ w lt. ap not (same_marked (line_in c a w) (line_in d a w) (one w lt))) i)) in
    subst (λ (o : Option ℕ). IsOneRoom (option_map (room_in c a) (victim_of c a)) (option_map (room_in d a) o)) victims
    (of_way (victim_of c a) (victim-unmarked c a))
  where
    one : (w : ℕ) → w < c.geometry.ways → IsOneLine (line_in c a w) (line_in d a w)
    one w lt = one_line c d p q length geometry copies ways a w lt

    lowest : (test : Line → Bool) → ((w : ℕ) → w < c.geometry.ways → test (line_in c a w) ≡ test (line_in d a w))
        → lowest_way test c a ≡ lowest_way test d a
    lowest test same =
        find_same c.geometry.ways (λ w. test (line_in c a w)) (λ w. test (line_in d a w)) same
        ∙ ap (λ (g : Geometry). find (λ w. test (line_in d a w)) (range_with_len 0 g.ways)) geometry

    of_way : (o : Option ℕ) → IfSome o (λ w. (w < c.geometry.ways) × (is_speculative (line_in c a w).state ≡ false))
        → IsOneRoom (option_map (room_in c a) o) (option_map (room_in d a) o)
    of_way None within = tt
    of_way (Some w) within = (refl, one w within.0)

no_length : (n : ℕ) → is_line_length n ≡ true → n ≡ 0 → ⊥
no_length n is none = true≢false (sym is ∙ ap is_line_length none)

core_room : (o u : Option Core) → ((core : Core) → o ≡ Some core → IsPlaced core.cache) → ((core : Core) → u ≡ Some core → IsPlaced core.cache)
    → state_or_none o ≡ state_or_none u → (a : ℕ) → IsOneRoom (line_or_none o a (victim_or_none o a)) (line_or_none u a (victim_or_none u a))
core_room None None p q same a = tt
core_room (Some c) None p q same a = absurd (no_length c.cache.line_length (p c refl).length_is (ap (λ (s : CoreState). s.line_length) same))
core_room None (Some d) p q same a = absurd (no_length d.cache.line_length (q d refl).length_is (sym (ap (λ (s : CoreState). s.line_length) same)))
core_room (Some c) (Some d) p q same a =
    cache_room c.cache d.cache (p c refl) (q d refl) (ap (λ (s : CoreState). s.line_length) same) (ap (λ (s : CoreState). s.geometry) same) (λ x. ap (λ (s : CoreState). s.copy x) same)
    (λ x. ap (λ (s : CoreState). s.way x) same) a

-- ---- what depends on the room

same_without : (addr : ℕ) (r s : Option Room) (core : CoreState) → IsOneRoom r s → without_line addr r core ≡ without_line addr s core
same_without addr None None core one = refl
same_without addr None (Some s) core one = absurd one
same_without addr (Some r) None core one = absurd one
same_without addr (Some r) (Some s) core one =
    (λ i. record core {
      copy = λ a. cond (same_is_copy r.line s.line one.1 a i) no_copy (core.copy a);
      way = λ a. cond (addr == a) (Some (one.0 i)) (core.way a);
    })

same_victim : (length : ℕ) (r s : Option Room) (memory : ℕ → ℕ) → IsOneRoom r s → with_victim length r memory ≡ with_victim length s memory
same_victim length None None memory one = refl
same_victim length None (Some s) memory one = absurd one
same_victim length (Some r) None memory one = absurd one
same_victim length (Some r) (Some s) memory one = by (is_valid r.line.state) refl
  where
    by : (b : Bool) → is_valid r.line.state ≡ b → with_victim length (Some r) memory ≡ with_victim length (Some s) memory
    by true e = (λ i. cond (is_modified (one.1.copy e i).state) (with_line length (one.1.addr e i) (one.1.copy e i).cell memory) memory)
    by false e =
        ap (λ b. cond b (with_line length r.line.addr (cell_of r.line) memory) memory) (invalid_unmodified r.line.state e)
        ∙ sym (ap (λ b. cond b (with_line length s.line.addr (cell_of s.line) memory) memory) (invalid_unmodified s.line.state (sym one.1.valid ∙ e)))

same_none : (r s : Option Room) → IsOneRoom r s → no_room r ≡ no_room s
same_none None None one = refl
same_none None (Some s) one = absurd one
same_none (Some r) None one = absurd one
same_none (Some r) (Some s) one = refl

same_for : (b : Bus) (core addr : ℕ) (r s : Option Room) → IsOneRoom r s → IsOneRoom (room_for b core addr r) (room_for b core addr s)
same_for b core addr r s one = by (holds_line b core addr)
  where
    by : (held : Bool) → IsOneRoom (cond held None r) (cond held None s)
    by true = tt
    by false = one

same_message : (b : Bus) (m : Message) (r s : Option Room) (next : Next) → IsOneRoom r s → after_message b m r next ≡ after_message b m s next
same_message b m r s next one =
    (λ i. record b {
      core = λ k. cond (k == m.sender) (changed_core m.addr next m.line (same_without m.addr r s (b.core m.sender) one i)) (heard_core b m k);
      memory = with_line b.line_length m.addr m.line (same_victim b.line_length r s b.memory one i);
    })

-- ---- the calls

module _ (b : Bus) (core addr offset width : ℕ) (r s : Option Room) (one : IsOneRoom r s) where
  same_load : after_load b core addr offset width r ≡ after_load b core addr offset width s
  same_load =
      ap (λ (after : Bus). cond (holds_line b core addr) (kept_line b core addr (load_next b core addr offset width)) after)
      (same_message b (message_of b notice.Load core addr) r s (load_next b core addr offset width) one)

  same_load_wait : load_wait b core addr r ≡ load_wait b core addr s
  same_load_wait =
      ap (λ none. cond (holds_line b core addr) None (cond none (Some NoWay) (cond (is_busy b (message_of b notice.Load core addr)) (Some OrbBusy) None))) (same_none r s one)

  same_claim : after_claim b core addr offset width r ≡ after_claim b core addr offset width s
  same_claim =
      ap (λ (after : Bus). cond (owns b core addr) (kept_line b core addr (store_next b core addr offset width)) after)
      (same_message b (message_of b notice.Store core addr) (room_for b core addr r) (room_for b core addr s) (store_next b core addr offset width) (same_for b core addr r s one))

  same_store : (value : ℕ) → after_store b core addr offset width value r ≡ after_store b core addr offset width value s
  same_store value = ap (λ (claimed : Bus). with_bytes claimed core addr offset width value) same_claim

  same_store_wait : store_wait b core addr offset width r ≡ store_wait b core addr offset width s
  same_store_wait =
      ap (λ none. cond (owns b core addr) None (cond (not (holds_line b core addr) && none) (Some NoWay)
      (cond ((store_next b core addr offset width).enters && is_full (b.core core).buffer) (Some OrbFull)
      (cond (is_busy b (message_of b notice.Store core addr)) (Some OrbBusy) None)))) (same_none r s one)

  same_straight_load : after_straight_load b core addr r ≡ after_straight_load b core addr s
  same_straight_load =
      ap (λ (after : Bus). cond (holds_line b core addr) b after)
      (same_message b (message_of b notice.Load core addr) r s (unmarked_next (cond (is_alone b (message_of b notice.Load core addr)) E S)) one)

  same_straight_store : (value : ℕ) → after_straight_store b core addr offset width value r ≡ after_straight_store b core addr offset width value s
  same_straight_store value =
      let message = straight_store_message b core addr offset width value in
      ap (λ (after : Bus). cond (stores_alone (own b core addr).state)
      (with_core core (with_copy addr (changed_copy (copy_with_number offset width value (own b core addr)) (unmarked_next M)) (b.core core)) b) after)
      (same_message b message (room_for b core addr r) (room_for b core addr s) (unmarked_next (cond (is_alone b message) M S)) (same_for b core addr r s one))

-- the rooms of an access are one
abbrev pub AreOneFor : Call → (f g : ℕ → ℕ → Option Room) → Type 0
AreOneFor (Load core addr width) f g = (a : ℕ) → IsOneRoom (f core a) (g core a)
AreOneFor (Store core addr width value) f g = (a : ℕ) → IsOneRoom (f core a) (g core a)
AreOneFor (StraightLoad core addr width) f g = (a : ℕ) → IsOneRoom (f core a) (g core a)
AreOneFor (StraightStore core addr width value) f g = (a : ℕ) → IsOneRoom (f core a) (g core a)
AreOneFor call f g = Unit {0}

same_call : (call : Call) (b : Bus) (f g : ℕ → ℕ → Option Room) → AreOneFor call f g → after_call call b f ≡ after_call call b g
same_call Reserve b f g one = refl
same_call (Begin core epoch) b f g one = refl
same_call (Load core addr width) b f g one =
    let n = line_of b.line_length addr in
    let x = offset_of b.line_length addr in
    (λ i. unless_waiting (same_load_wait b core n x width (f core n) (g core n) (one n) i) (same_load b core n x width (f core n) (g core n) (one n) i) b)
same_call (Store core addr width value) b f g one =
    let n = line_of b.line_length addr in
    let x = offset_of b.line_length addr in
    (λ i. unless_waiting (same_store_wait b core n x width (f core n) (g core n) (one n) i) (same_store b core n x width (f core n) (g core n) (one n) value i) b)
same_call (Publish core) b f g one = refl
same_call (StraightLoad core addr width) b f g one =
    let n = line_of b.line_length addr in same_straight_load b core n (offset_of b.line_length addr) width (f core n) (g core n) (one n)
same_call (StraightStore core addr width value) b f g one =
    let n = line_of b.line_length addr in same_straight_store b core n (offset_of b.line_length addr) width (f core n) (g core n) (one n) value
same_call (Leave core) b f g one = refl
same_call (Cancel core) b f g one = refl

-- ---- lists of calls

pub same_rooms : (v w : CachedView) (k : ℕ) → IsPlacedCore v.cores k → IsPlacedCore w.cores k → bus v ≡ bus w
    → (a : ℕ) → IsOneRoom (room v k a) (room w k a)
same_rooms v w k p q same a = core_room (slice_get v.cores k) (slice_get w.cores k) p q (ap (λ (b : Bus). b.core k) same) a

rooms_for : (call : Call) (v w : CachedView) → IsPlacedFor v.cores call → IsPlacedFor w.cores call → bus v ≡ bus w → AreOneFor call (room v) (room w)
rooms_for Reserve v w p q same = tt
rooms_for (Begin core epoch) v w p q same = tt
rooms_for (Load core addr width) v w p q same = same_rooms v w core p q same
rooms_for (Store core addr width value) v w p q same = same_rooms v w core p q same
rooms_for (Publish core) v w p q same = tt
rooms_for (StraightLoad core addr width) v w p q same = same_rooms v w core p q same
rooms_for (StraightStore core addr width value) v w p q same = same_rooms v w core p q same
rooms_for (Leave core) v w p q same = tt
rooms_for (Cancel core) v w p q same = tt

placed_for : (call : Call) (cores : List Core) → ((k : ℕ) → IsPlacedCore cores k) → IsPlacedFor cores call
placed_for Reserve cores p = tt
placed_for (Begin core epoch) cores p = tt
placed_for (Load core addr width) cores p = p core
placed_for (Store core addr width value) cores p = p core
placed_for (Publish core) cores p = tt
placed_for (StraightLoad core addr width) cores p = p core
placed_for (StraightStore core addr width value) cores p = p core
placed_for (Leave core) cores p = tt
placed_for (Cancel core) cores p = tt

-- they give bytes the same places
pub same_place : (v w : CachedView) (addr : ℕ) → HoldTheSame v w → place_of v addr ≡ place_of w addr
same_place v w addr same =
    (λ i. place (record (same_machine i) { apart = sym same.places.apart i }) (sym same.places.size i) (min addr (sym same.places.size i)))
  where
    same_machine : v.machine ≡ w.machine
    same_machine = sym (ap (λ (b : Bus). b.shape.machine) same.bus_is)

same_load_waits : (v w : CachedView) (core addr width : ℕ) → IsPlacedCore v.cores core → IsPlacedCore w.cores core → HoldTheSame v w
    → (waits v).load core addr width ≡ (waits w).load core addr width
same_load_waits v w core addr width p q same =
    let n = line_of (bus v).line_length (place_of v addr) in
    same_load_wait (bus v) core n 0 width (room v core n) (room w core n) (same_rooms v w core p q (sym same.bus_is) n)
    ∙ (ap (λ (b : Bus). load_wait b core (line_of b.line_length (place_of v addr)) (room w core (line_of b.line_length (place_of v addr)))) (sym same.bus_is)
    ∙ ap (λ a. load_wait (bus w) core (line_of (bus w).line_length a) (room w core (line_of (bus w).line_length a))) (same_place v w addr same))

same_store_waits : (v w : CachedView) (core addr width : ℕ) → IsPlacedCore v.cores core → IsPlacedCore w.cores core → HoldTheSame v w
    → (waits v).store core addr width ≡ (waits w).store core addr width
same_store_waits v w core addr width p q same =
    let n = line_of (bus v).line_length (place_of v addr) in
    let x = offset_of (bus v).line_length (place_of v addr) in
    same_store_wait (bus v) core n x width (room v core n) (room w core n) (same_rooms v w core p q (sym same.bus_is) n)
    ∙ (ap (λ (b : Bus). store_wait b core (line_of b.line_length (place_of v addr)) (offset_of b.line_length (place_of v addr)) width (room w core (line_of b.line_length (place_of v addr)))) (sym same.bus_is)
    ∙ ap (λ a. store_wait (bus w) core (line_of (bus w).line_length a) (offset_of (bus w).line_length a) width (room w core (line_of (bus w).line_length a))) (same_place v w addr same))

alike : (v w : CachedView) → ((k : ℕ) → IsPlacedCore v.cores k) → ((k : ℕ) → IsPlacedCore w.cores k) → HoldTheSame v w → AreAlike v w
alike v w p q same = record {
  holds = sym same.bus_is;
  load = λ core addr width. same_load_waits v w core addr width (p core) (q core) same;
  store = λ core addr width. same_store_waits v w core addr width (p core) (q core) same;
}

-- a call by places that are the same
same_at : (v w : CachedView) (call : Call) → HoldTheSame v w → at_place (place_of v) call ≡ at_place (place_of w) call
same_at v w Reserve same = refl
same_at v w (Begin core epoch) same = refl
same_at v w (Load core addr width) same = ap (λ a. Load core a width) (same_place v w addr same)
same_at v w (Store core addr width value) same = ap (λ a. Store core a width value) (same_place v w addr same)
same_at v w (Publish core) same = refl
same_at v w (StraightLoad core addr width) same = ap (λ a. StraightLoad core a width) (same_place v w addr same)
same_at v w (StraightStore core addr width value) same = ap (λ a. StraightStore core a width value) (same_place v w addr same)
same_at v w (Leave core) same = refl
same_at v w (Cancel core) same = refl

-- the rooms of a call are those of its place
rooms_at : (place : ℕ → ℕ) (call : Call) (f g : ℕ → ℕ → Option Room) → AreOneFor call f g → AreOneFor (at_place place call) f g
rooms_at place Reserve f g one = tt
rooms_at place (Begin core epoch) f g one = tt
rooms_at place (Load core addr width) f g one = one
rooms_at place (Store core addr width value) f g one = one
rooms_at place (Publish core) f g one = tt
rooms_at place (StraightLoad core addr width) f g one = one
rooms_at place (StraightStore core addr width value) f g one = one
rooms_at place (Leave core) f g one = tt
rooms_at place (Cancel core) f g one = tt

-- the same call of two that hold the same leads to two that do
after_same : (call : Call) (v v' w w' : CachedView) → IsPlacedFor v.cores call → IsPlacedFor v'.cores call → HoldTheSame v v' → IsAfter call v w → IsAfter call v' w' → HoldTheSame w w'
after_same call v v' w w' p q same one two = record {
  bus_is =
      two.bus_is
      ∙ (ap (λ (c : Call). after_call c (bus v') (room v')) (sym (same_at v v' call same))
      ∙ (ap (λ (b : Bus). after_call (at_place (place_of v) call) b (room v')) same.bus_is
      ∙ (sym (same_call (at_place (place_of v) call) (bus v) (room v) (room v') (rooms_at (place_of v) call (room v) (room v') (rooms_for call v v' p q (sym same.bus_is)))) ∙ sym one.bus_is)));
  places = record {
    size = two.places.size ∙ (same.places.size ∙ sym one.places.size);
    apart = two.places.apart ∙ (same.places.apart ∙ sym one.places.apart);
  };
}

pub calls_fixed : (calls : List Call) (v v' w w' : CachedView) → HoldTheSame v v' → Lead calls v w → Lead calls v' w' → AreAlike w w'
calls_fixed [] v v' w w' same one two = rw (one.1, two.1) (alike v v' one.0 two.0 same)
calls_fixed (call ∷ calls) v v' w w' same one two =
    calls_fixed calls one.1 two.1 w w' (after_same call v v' one.1 two.1 (placed_for call v.cores one.0) (placed_for call v'.cores two.0) same one.2 two.2) one.3 two.3

-- ---- one call

pub fixed : IsFixed Makes HoldTheSame
fixed v w v' w' call same one two = after_same call v v' w w' one.placed two.placed same one.after two.after

pub joined : RoomsJoin Makes
joined u v w one two = record {
  placed = one.placed;
  after = record {
    bus_is = two.after.bus_is ∙ one.after.bus_is;
    places = record { size = two.after.places.size ∙ one.after.places.size; apart = two.after.places.apart ∙ one.after.places.apart };
  };
}

pub views : (v w : CachedView) → HoldTheSame v w → IsSameView (store_view v) (store_view w)
views v w same = subst (λ (x : StoreView). IsSameView (store_view v) x) same_view (no_change (store_view v))
  where
    same_view : store_view v ≡ store_view w
    same_view = (λ i. seen (sym same.places.size i) (sym same.places.apart i) (view_of (sym same.bus_is i)))

    no_change : (x : StoreView) → IsSameView x x
    no_change x = record {
      shape = refl;
      cached = refl;
      committed = λ a. refl;
      cores = λ k. record { attempt = refl; own = λ a. refl; guarded = λ a. refl; sees = λ a. refl };
    }

pub waiting : FixWaits Makes HoldTheSame waits
waiting = record {
  load = λ v w v' w' core addr width same one two. same_load_waits v v' core addr width one.placed two.placed same;
  store = λ v w v' w' core addr width value same one two. same_store_waits v v' core addr width one.placed two.placed same;
}
