use Rattle.std.proofs.Common.{◌≡◌, ◌<◌, ◌∙◌, ℕ, slice_index, sym, subst, arith}
use Rattle.violations.specs.View.{IsCommitted}
use Rattle.bus_states.specs.Views.{view_of}
use Rattle.spec_bus.specs.Cached.{CachedView, bus, place_of}
use Rattle.spec_bus.proofs.Placing.{committed_apart}
use Rattle.spec_bus.proofs.cached.CachedBus.by_address.Goals as goal

pub returns : goal.returns
returns c =
    let i = c.self.inside in
    let each : (a : ℕ) → a < c.loop-addr.addr → slice_index c.loop-addr.bytes.items a ≡ slice_index c.args.places.now (place_of c.args.self.now a) = c.loop-addr.invariant.bytes in
    let end : c.loop-addr.addr ≡ i.size = omega (arith, c.loop-addr-test.false, c.loop-addr.auto.addr-end) in
    rw (← c.self.view_is)
    (committed_apart i.size i.apart i.parts c.args.places.now c.loop-addr.bytes.items c.self.invariant.places
    (subst (λ (v : CachedView). IsCommitted (view_of (bus v)) c.args.places.now) (sym c.self.view_is) c.requires)
    (c.loop-addr.invariant.long ∙ end)
    (λ a lt. subst (λ (v : CachedView). slice_index c.loop-addr.bytes.items a ≡ slice_index c.args.places.now (place_of v a)) (sym c.self.view_is) (each a (omega (arith, lt, end)))))
