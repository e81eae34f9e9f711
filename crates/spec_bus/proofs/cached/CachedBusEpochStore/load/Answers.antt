use Rattle.std.proofs.Common.{◌≡◌, ◌∙◌, ℕ, false, sym, ap, subst}
use Rattle.violations.specs.View.{Runs, IsLoad}
use Rattle.bus_states.specs.Bus.{line_of}
use Rattle.spec_bus.specs.Cached.{CachedView, bus, place_of, store_view}
use Rattle.spec_bus.specs.Parts.{bus_in, room_at}
use Rattle.violations.specs.Answers.{MatchStep}
use Rattle.violations.specs.Rule.{Loads}
use Rattle.bus_states.specs.Speculative.{load_wait}
use Rattle.bus_states.specs.Views.{view_of}
use Rattle.spec_bus.proofs.Keeping.{Accesses, runs_there, loaded, loads, load_waits}
use Rattle.spec_bus.proofs.Making.{load_makes, loaded_at}
use Rattle.spec_bus.proofs.Placing.{access_at, access_in, access_under, access_within, at_address, place_at, loaded-places, place_in, runs_under, seen-loads, shape_of}
use Rattle.spec_bus.proofs.cached.CachedBusEpochStore.load.Goals as goal

pub load-requires : goal.load-requires
load-requires c =
    let i = c.self.inside in
    let kept = c.self.invariant in
    let access =
    access_under i.size i.apart i.parts c.args.addr c.args.width c.place-place.result kept.bus kept.places
    (subst (λ v. IsLoad (store_view v).shape c.args.addr c.args.width) (sym c.self.view_is) c.requires.access)
    (subst (λ (v : CachedView). c.place-place.result ≡ place_of v c.args.addr) (sym c.self.view_is) c.place-place.ensures.place) in
    access_in i.parts c.args.core c.place-place.result c.args.width c.line_of-line.result kept.bus
    (runs_there i.parts c.args.core false kept.bus
    (runs_under i.size i.apart i.parts c.args.core false (subst (λ v. Runs (store_view v) c.args.core false) (sym c.self.view_is) c.requires.runs)))
    access
    (subst (λ (v : CachedView). c.line_of-line.result ≡ line_of (bus v).line_length c.place-place.result) (sym c.self.view_is) c.line_of-line.ensures.value)

-- its place, and what it asks there
place_is : (c : goal.After-load) → c.place-place.result ≡ place_at c.self.inside.size c.self.inside.apart c.self.inside.parts c.args.addr
place_is c = subst (λ (v : CachedView). c.place-place.result ≡ place_of v c.args.addr) (sym c.self.view_is) c.place-place.ensures.place

asked : (c : goal.After-load) → IsLoad (shape_of c.self.inside.size c.self.inside.apart c.self.inside.parts) c.args.addr c.args.width
asked c = subst (λ v. IsLoad (store_view v).shape c.args.addr c.args.width) (sym c.self.view_is) c.requires.access

seen_at : (c : goal.After-load) → c.place-place.result ≡ place_in c.self.inside.size c.self.inside.apart c.self.inside.parts c.args.addr
seen_at c =
    let i = c.self.inside in
    place_is c ∙ at_address i.size i.apart i.parts c.args.addr (access_within (shape_of i.size i.apart i.parts) c.args.addr c.args.width (asked c))

accesses : (c : goal.After-load) → Accesses c.self.inside.parts c.args.core c.place-place.result c.args.width false c.line_of-line.result (room_at c.self.inside.parts.cores.items c.args.core c.line_of-line.result)
accesses c =
    let i = c.self.inside in record {
      keeps = c.self.invariant.bus;
      runs = runs_under i.size i.apart i.parts c.args.core false (subst (λ v. Runs (store_view v) c.args.core false) (sym c.self.view_is) c.requires.runs);
      access =
          subst (λ p. IsLoad (bus_in i.parts).shape p c.args.width) (sym (seen_at c))
          (access_at i.size i.apart i.parts c.args.addr c.args.width c.self.invariant.bus c.self.invariant.places (asked c));
      line_is = subst (λ (v : CachedView). c.line_of-line.result ≡ line_of (bus v).line_length c.place-place.result) (sym c.self.view_is) c.line_of-line.ensures.value;
      victim = c.look_room.ensures.room;
    }

by_rule : (c : goal.After-load)
    → MatchStep c.load.result
    (λ value hurt. Loads (view_of (bus_in c.self.inside.parts)) (view_of (bus_in c.load.new.self)) c.args.core (place_in c.self.inside.size c.self.inside.apart c.self.inside.parts c.args.addr) c.args.width value hurt)
    (c.load.new.self ≡ c.self.inside.parts)
by_rule c =
    subst (λ p. MatchStep c.load.result (λ value hurt. Loads (view_of (bus_in c.self.inside.parts)) (view_of (bus_in c.load.new.self)) c.args.core p c.args.width value hurt)
    (c.load.new.self ≡ c.self.inside.parts)) (seen_at c)
    (loads c.load.result c.self.inside.parts c.load.new.self c.args.core c.place-place.result c.args.width c.line_of-line.result _ (accesses c) c.load.ensures)

pub invariant_of-self : goal.invariant_of-self
invariant_of-self c =
    let i = c.self.inside in
    let kept = loaded c.load.result i.parts c.load.new.self c.args.core c.place-place.result c.args.width c.line_of-line.result _ (accesses c) c.load.ensures in record {
      bus = kept;
      places = loaded-places i.size i.apart i.parts c.load.new.self c.self.invariant.bus c.self.invariant.places c.args.core c.args.addr c.args.width (asked c) c.load.result kept (by_rule c);
    }

pub returns-clause-loads : goal.returns-clause-loads
returns-clause-loads c =
    let i = c.self.inside in
    rw (← c.self.view_is)
    (seen-loads i.size i.apart i.parts c.load.new.self c.self.invariant.bus c.self.invariant.places c.args.core c.args.addr c.args.width (asked c) c.load.result (by_rule c))

pub returns-clause-bus : goal.returns-clause-bus
returns-clause-bus c =
    let i = c.self.inside in
    rw (← c.self.view_is)
    (loaded_at i.size i.apart c.load.result i.parts c.load.new.self c.args.core c.place-place.result _ c.args.width c.line_of-line.result (place_is c) (accesses c).line_is c.load.ensures)

pub returns-clause-waits : goal.returns-clause-waits
returns-clause-waits c =
    let parts = c.self.inside.parts in
    rw (← c.self.view_is)
    (load_waits c.load.result parts c.load.new.self c.args.core _ c.args.width c.line_of-line.result _ c.load.ensures
    ∙ ap (λ (line : ℕ). load_wait (bus_in parts) c.args.core line (room_at parts.cores.items c.args.core line))
    ((accesses c).line_is ∙ ap (line_of parts.machine.line_length) (place_is c)))

pub returns-clause-makes : goal.returns-clause-makes
returns-clause-makes c =
    let i = c.self.inside in
    rw (← c.self.view_is)
    (load_makes i.size i.apart c.load.result i.parts c.load.new.self c.args.core c.args.addr c.place-place.result c.args.width c.line_of-line.result (place_is c) (accesses c).line_is
    c.look_room.ensures.placed c.load.ensures)
