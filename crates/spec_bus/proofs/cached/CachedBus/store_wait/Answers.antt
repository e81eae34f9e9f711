use Rattle.std.proofs.Common.{◌≡◌, ◌∙◌, ◌<◌, ℕ, ap, sym, subst}
use Rattle.violations.specs.View.{IsLoad}
use Rattle.bus_states.specs.Bus.{line_of, offset_of}
use Rattle.bus_states.specs.Speculative.{store_wait}
use Rattle.spec_bus.specs.Cached.{CachedView, bus, place_of, store_view}
use Rattle.spec_bus.specs.Parts.{bus_in, room_at}
use Rattle.spec_bus.proofs.Placing.{access_in, access_under}
use Rattle.spec_bus.proofs.cached.CachedBus.store_wait.Goals as goal

pub store_wait-requires : goal.store_wait-requires
store_wait-requires c =
    let i = c.self.inside in
    let kept = c.self.invariant in
    let access =
    access_under i.size i.apart i.parts c.args.addr c.args.width c.place-place.result kept.bus kept.places
    (subst (λ v. IsLoad (store_view v).shape c.args.addr c.args.width) (sym c.self.view_is) c.requires.access)
    (subst (λ (v : CachedView). c.place-place.result ≡ place_of v c.args.addr) (sym c.self.view_is) c.place-place.ensures.place) in
    access_in i.parts c.args.core c.place-place.result c.args.width c.line_of-line.result kept.bus
    (subst (λ (v : CachedView). c.args.core < (bus v).shape.cores) (sym c.self.view_is) c.requires.core)
    access
    (subst (λ (v : CachedView). c.line_of-line.result ≡ line_of (bus v).line_length c.place-place.result) (sym c.self.view_is) c.line_of-line.ensures.value)

pub returns : goal.returns
returns c =
    let parts = c.self.inside.parts in
    let line_is = subst (λ (v : CachedView). c.line_of-line.result ≡ line_of (bus v).line_length c.place-place.result) (sym c.self.view_is) c.line_of-line.ensures.value in
    let place_is = subst (λ (v : CachedView). c.place-place.result ≡ place_of v c.args.addr) (sym c.self.view_is) c.place-place.ensures.place in
    rw (← c.self.view_is)
    (c.store_wait.ensures
    ∙ (ap (λ (line : ℕ). store_wait (bus_in parts) c.args.core line (offset_of parts.machine.line_length c.place-place.result) c.args.width
    (room_at parts.cores.items c.args.core line)) line_is
    ∙ ap (λ (p : ℕ). store_wait (bus_in parts) c.args.core (line_of parts.machine.line_length p) (offset_of parts.machine.line_length p) c.args.width
    (room_at parts.cores.items c.args.core (line_of parts.machine.line_length p))) place_is))
