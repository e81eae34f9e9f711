use Rattle.std.proofs.Common.{◌≡◌, ◌∙◌, ℕ, true, sym, ap, subst}
use Rattle.violations.specs.View.{Runs, IsLoad}
use Rattle.bus_states.specs.Bus.{line_of}
use Rattle.spec_bus.specs.Cached.{CachedView, bus, place_of, store_view}
use Rattle.spec_bus.specs.Parts.{bus_in, room_at}
use Rattle.violations.specs.CoreSet.{is_in}
use Rattle.violations.specs.Rule.{LoadsStraight}
use Rattle.bus_states.specs.declared.notice.Notice.TheVariants.{Load}
use Rattle.bus_states.specs.Straight.{after_straight_load, straight_load_violates}
use Rattle.bus_states.specs.Views.{view_of}
use Rattle.spec_bus.proofs.Keeping.{Accesses, loaded_straight, loads_straight, straight_free}
use Rattle.spec_bus.proofs.Making.{straight_load_makes}
use Rattle.spec_bus.proofs.Placing.{access_at, access_under, access_within, straight_in, at_address, place_at, loaded_straight-places, place_in, runs_under, seen-loads_straight, shape_of}
use Rattle.spec_bus.proofs.cached.CachedBusEpochStore.straight_load.Goals as goal

pub straight_load-requires-clause-free : goal.straight_load-requires-clause-free
straight_load-requires-clause-free c =
    let i = c.self.inside in
    straight_free Load i.parts c.args.core c.line_of-line.result c.self.invariant.bus
    (runs_under i.size i.apart i.parts c.args.core true (subst (λ v. Runs (store_view v) c.args.core true) (sym c.self.view_is) c.requires.runs))
    (rw (← c.self.view_is) at c.line_of-line.ensures.aligned)

pub straight_load-requires-clause-access : goal.straight_load-requires-clause-access
straight_load-requires-clause-access c =
    let i = c.self.inside in
    let kept = c.self.invariant in
    let runs = runs_under i.size i.apart i.parts c.args.core true (subst (λ v. Runs (store_view v) c.args.core true) (sym c.self.view_is) c.requires.runs) in
    let access =
    access_under i.size i.apart i.parts c.args.addr c.args.width c.place-place.result kept.bus kept.places
    (subst (λ v. IsLoad (store_view v).shape c.args.addr c.args.width) (sym c.self.view_is) c.requires.access)
    (subst (λ (v : CachedView). c.place-place.result ≡ place_of v c.args.addr) (sym c.self.view_is) c.place-place.ensures.place) in
    straight_in i.parts c.args.core c.place-place.result c.args.width c.line_of-line.result kept.bus runs access
    (subst (λ (v : CachedView). c.line_of-line.result ≡ line_of (bus v).line_length c.place-place.result) (sym c.self.view_is) c.line_of-line.ensures.value)

-- its place, and what it asks there
place_is : (c : goal.After-straight_load) → c.place-place.result ≡ place_at c.self.inside.size c.self.inside.apart c.self.inside.parts c.args.addr
place_is c = subst (λ (v : CachedView). c.place-place.result ≡ place_of v c.args.addr) (sym c.self.view_is) c.place-place.ensures.place

asked : (c : goal.After-straight_load) → IsLoad (shape_of c.self.inside.size c.self.inside.apart c.self.inside.parts) c.args.addr c.args.width
asked c = subst (λ v. IsLoad (store_view v).shape c.args.addr c.args.width) (sym c.self.view_is) c.requires.access

seen_at : (c : goal.After-straight_load) → c.place-place.result ≡ place_in c.self.inside.size c.self.inside.apart c.self.inside.parts c.args.addr
seen_at c =
    let i = c.self.inside in
    place_is c ∙ at_address i.size i.apart i.parts c.args.addr (access_within (shape_of i.size i.apart i.parts) c.args.addr c.args.width (asked c))

accesses : (c : goal.After-straight_load) → Accesses c.self.inside.parts c.args.core c.place-place.result c.args.width true c.line_of-line.result (room_at c.self.inside.parts.cores.items c.args.core c.line_of-line.result)
accesses c =
    let i = c.self.inside in record {
      keeps = c.self.invariant.bus;
      runs = runs_under i.size i.apart i.parts c.args.core true (subst (λ v. Runs (store_view v) c.args.core true) (sym c.self.view_is) c.requires.runs);
      access =
          subst (λ p. IsLoad (bus_in i.parts).shape p c.args.width) (sym (seen_at c))
          (access_at i.size i.apart i.parts c.args.addr c.args.width c.self.invariant.bus c.self.invariant.places (asked c));
      line_is = subst (λ (v : CachedView). c.line_of-line.result ≡ line_of (bus v).line_length c.place-place.result) (sym c.self.view_is) c.line_of-line.ensures.value;
      victim = c.look_room.ensures.room;
    }

by_rule : (c : goal.After-straight_load)
    → LoadsStraight (view_of (bus_in c.self.inside.parts)) (view_of (bus_in c.straight_load.new.self)) c.args.core
    (place_in c.self.inside.size c.self.inside.apart c.self.inside.parts c.args.addr) c.args.width c.straight_load.result.0 (is_in c.straight_load.result.1)
by_rule c =
    subst (λ p. LoadsStraight (view_of (bus_in c.self.inside.parts)) (view_of (bus_in c.straight_load.new.self)) c.args.core p c.args.width c.straight_load.result.0 (is_in c.straight_load.result.1)) (seen_at c)
    (loads_straight c.self.inside.parts c.straight_load.new.self c.args.core c.place-place.result c.args.width c.line_of-line.result _ c.straight_load.result.0 (is_in c.straight_load.result.1)
    (accesses c) c.straight_load.ensures.bus c.straight_load.ensures.value c.straight_load.ensures.small c.straight_load.ensures.hurt)

pub invariant_of-self : goal.invariant_of-self
invariant_of-self c =
    let i = c.self.inside in
    let kept =
    loaded_straight i.parts c.straight_load.new.self c.args.core c.place-place.result c.args.width c.line_of-line.result _ c.straight_load.result.0 (is_in c.straight_load.result.1)
    (accesses c) c.straight_load.ensures.bus c.straight_load.ensures.value c.straight_load.ensures.small c.straight_load.ensures.hurt in record {
      bus = kept;
      places =
          loaded_straight-places i.size i.apart i.parts c.straight_load.new.self c.self.invariant.bus c.self.invariant.places c.args.core c.args.addr c.args.width (asked c)
          c.straight_load.result.0 (is_in c.straight_load.result.1) kept (accesses c).runs (by_rule c);
    }

pub returns-clause-loads : goal.returns-clause-loads
returns-clause-loads c =
    let i = c.self.inside in
    rw (← c.self.view_is)
    (seen-loads_straight i.size i.apart i.parts c.straight_load.new.self c.self.invariant.bus c.self.invariant.places c.args.core c.args.addr c.args.width (asked c)
    c.straight_load.result.0 (is_in c.straight_load.result.1) (by_rule c))

pub returns-clause-bus : goal.returns-clause-bus
returns-clause-bus c =
    let parts = c.self.inside.parts in
    rw (← c.self.view_is)
    (c.straight_load.ensures.bus
    ∙ ap (λ (line : ℕ). after_straight_load (bus_in parts) c.args.core line (room_at parts.cores.items c.args.core line))
    ((accesses c).line_is ∙ ap (line_of parts.machine.line_length) (place_is c)))

pub returns-clause-hurt : goal.returns-clause-hurt
returns-clause-hurt c =
    let parts = c.self.inside.parts in
    rw (← c.self.view_is)
    (λ k. c.straight_load.ensures.hurt k
    ∙ ap (λ (line : ℕ). straight_load_violates (bus_in parts) c.args.core line k)
    ((accesses c).line_is ∙ ap (line_of parts.machine.line_length) (place_is c)))

pub returns-clause-makes : goal.returns-clause-makes
returns-clause-makes c =
    let i = c.self.inside in
    rw (← c.self.view_is)
    (straight_load_makes i.size i.apart i.parts c.straight_load.new.self c.args.core c.args.addr c.place-place.result c.args.width c.line_of-line.result (place_is c) (accesses c).line_is
    c.look_room.ensures.placed c.straight_load.ensures.bus)
