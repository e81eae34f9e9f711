use Rattle.std.proofs.Common.{◌≡◌, ◌∙◌, ℕ, false, sym, ap, subst}
use Rattle.violations.specs.View.{Runs, IsLoad}
use Rattle.bus_states.specs.Bus.{line_of, offset_of}
use Rattle.spec_bus.specs.Cached.{CachedView, bus, place_of, store_view}
use Rattle.spec_bus.specs.Parts.{bus_in, room_at}
use Rattle.violations.specs.Answers.{MatchStep}
use Rattle.violations.specs.Rule.{Stores}
use Rattle.bus_states.specs.Speculative.{store_wait}
use Rattle.bus_states.specs.Views.{view_of}
use Rattle.spec_bus.proofs.Keeping.{Accesses, runs_there, stored, stores, store_waits}
use Rattle.spec_bus.proofs.Making.{store_makes, stored_at}
use Rattle.spec_bus.proofs.Placing.{access_at, access_in, access_under, access_within, at_address, place_at, stored-places, place_in, runs_under, seen-stores, shape_of}
use Rattle.spec_bus.proofs.cached.CachedBusEpochStore.store.Goals as goal

pub store-requires : goal.store-requires
store-requires c =
    let i = c.self.inside in
    let kept = c.self.invariant in
    let access =
    access_under i.size i.apart i.parts c.args.addr c.args.width c.place-place.result kept.bus kept.places
    (subst (λ v. IsLoad (store_view v).shape c.args.addr c.args.width) (sym c.self.view_is) c.requires.access)
    (subst (λ (v : CachedView). c.place-place.result ≡ place_of v c.args.addr) (sym c.self.view_is) c.place-place.ensures.place) in
    access_in i.parts c.args.core c.place-place.result c.args.width c.line_of-line.result kept.bus
    (runs_there i.parts c.args.core false kept.bus
    (runs_under i.size i.apart i.parts c.args.core false (subst (λ v. Runs (store_view v) c.args.core false) (sym c.self.view_is) c.requires.runs)))
    access
    (subst (λ (v : CachedView). c.line_of-line.result ≡ line_of (bus v).line_length c.place-place.result) (sym c.self.view_is) c.line_of-line.ensures.value)

-- its place, and what it asks there
place_is : (c : goal.After-store) → c.place-place.result ≡ place_at c.self.inside.size c.self.inside.apart c.self.inside.parts c.args.addr
place_is c = subst (λ (v : CachedView). c.place-place.result ≡ place_of v c.args.addr) (sym c.self.view_is) c.place-place.ensures.place

asked : (c : goal.After-store) → IsLoad (shape_of c.self.inside.size c.self.inside.apart c.self.inside.parts) c.args.addr c.args.width
asked c = subst (λ v. IsLoad (store_view v).shape c.args.addr c.args.width) (sym c.self.view_is) c.requires.access

seen_at : (c : goal.After-store) → c.place-place.result ≡ place_in c.self.inside.size c.self.inside.apart c.self.inside.parts c.args.addr
seen_at c =
    let i = c.self.inside in
    place_is c ∙ at_address i.size i.apart i.parts c.args.addr (access_within (shape_of i.size i.apart i.parts) c.args.addr c.args.width (asked c))

accesses : (c : goal.After-store) → Accesses c.self.inside.parts c.args.core c.place-place.result c.args.width false c.line_of-line.result (room_at c.self.inside.parts.cores.items c.args.core c.line_of-line.result)
accesses c =
    let i = c.self.inside in record {
      keeps = c.self.invariant.bus;
      runs = runs_under i.size i.apart i.parts c.args.core false (subst (λ v. Runs (store_view v) c.args.core false) (sym c.self.view_is) c.requires.runs);
      access =
          subst (λ p. IsLoad (bus_in i.parts).shape p c.args.width) (sym (seen_at c))
          (access_at i.size i.apart i.parts c.args.addr c.args.width c.self.invariant.bus c.self.invariant.places (asked c));
      line_is = subst (λ (v : CachedView). c.line_of-line.result ≡ line_of (bus v).line_length c.place-place.result) (sym c.self.view_is) c.line_of-line.ensures.value;
      victim = c.look_room.ensures.room;
    }

by_rule : (c : goal.After-store)
    → MatchStep c.store.result
    (λ answer hurt. (answer ≡ 0) × Stores (view_of (bus_in c.self.inside.parts)) (view_of (bus_in c.store.new.self)) c.args.core (place_in c.self.inside.size c.self.inside.apart c.self.inside.parts c.args.addr) c.args.width c.args.value hurt)
    (c.store.new.self ≡ c.self.inside.parts)
by_rule c =
    subst (λ p. MatchStep c.store.result
    (λ answer hurt. (answer ≡ 0) × Stores (view_of (bus_in c.self.inside.parts)) (view_of (bus_in c.store.new.self)) c.args.core p c.args.width c.args.value hurt)
    (c.store.new.self ≡ c.self.inside.parts)) (seen_at c)
    (stores c.store.result c.self.inside.parts c.store.new.self c.args.core c.place-place.result c.args.width c.args.value c.line_of-line.result _ (accesses c) c.store.ensures)

pub invariant_of-self : goal.invariant_of-self
invariant_of-self c =
    let i = c.self.inside in
    let kept = stored c.store.result i.parts c.store.new.self c.args.core c.place-place.result c.args.width c.args.value c.line_of-line.result _ (accesses c) c.store.ensures in record {
      bus = kept;
      places =
          stored-places i.size i.apart i.parts c.store.new.self c.self.invariant.bus c.self.invariant.places c.args.core c.args.addr c.args.width (asked c) c.store.result c.args.value kept (by_rule c);
    }

pub returns-clause-stores : goal.returns-clause-stores
returns-clause-stores c =
    let i = c.self.inside in
    rw (← c.self.view_is)
    (seen-stores i.size i.apart i.parts c.store.new.self c.self.invariant.bus c.self.invariant.places c.args.core c.args.addr c.args.width (asked c) c.store.result c.args.value (by_rule c))

pub returns-clause-bus : goal.returns-clause-bus
returns-clause-bus c =
    let i = c.self.inside in
    rw (← c.self.view_is)
    (stored_at i.size i.apart c.store.result i.parts c.store.new.self c.args.core c.place-place.result _ c.args.width c.args.value c.line_of-line.result (place_is c) (accesses c).line_is c.store.ensures)

pub returns-clause-waits : goal.returns-clause-waits
returns-clause-waits c =
    let parts = c.self.inside.parts in
    rw (← c.self.view_is)
    (store_waits c.store.result parts c.store.new.self c.args.core _ c.args.width c.args.value c.line_of-line.result _ c.store.ensures
    ∙ (ap (λ (line : ℕ). store_wait (bus_in parts) c.args.core line (offset_of parts.machine.line_length c.place-place.result) c.args.width
    (room_at parts.cores.items c.args.core line)) (accesses c).line_is
    ∙ ap (λ (p : ℕ). store_wait (bus_in parts) c.args.core (line_of parts.machine.line_length p) (offset_of parts.machine.line_length p) c.args.width
    (room_at parts.cores.items c.args.core (line_of parts.machine.line_length p))) (place_is c)))

pub returns-clause-makes : goal.returns-clause-makes
returns-clause-makes c =
    let i = c.self.inside in
    rw (← c.self.view_is)
    (store_makes i.size i.apart c.store.result i.parts c.store.new.self c.args.core c.args.addr c.place-place.result c.args.width c.args.value c.line_of-line.result (place_is c) (accesses c).line_is
    c.look_room.ensures.placed c.store.ensures)
