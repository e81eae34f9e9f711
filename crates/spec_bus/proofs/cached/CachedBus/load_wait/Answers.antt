use Rattle.std.proofs.Common.{◌≡◌, ◌∙◌, ℕ, ap, sym, subst}
use Rattle.bus_states.specs.Bus.{line_of}
use Rattle.bus_states.specs.Speculative.{load_wait}
use Rattle.spec_bus.specs.Cached.{CachedView, bus, place_of}
use Rattle.spec_bus.specs.Parts.{bus_in, room_at}
use Rattle.spec_bus.proofs.cached.CachedBus.load_wait.Goals as goal

pub returns : goal.returns
returns c width =
    let parts = c.self.inside.parts in
    let line_is = subst (λ (v : CachedView). c.line_of-line.result ≡ line_of (bus v).line_length c.place.result) (sym c.self.view_is) c.line_of-line.ensures.value in
    let place_is = subst (λ (v : CachedView). c.place.result ≡ place_of v c.args.addr) (sym c.self.view_is) c.place.ensures.place in
    rw (← c.self.view_is)
    (c.load_wait.ensures
    ∙ ap (λ (line : ℕ). load_wait (bus_in parts) c.args.core line (room_at parts.cores.items c.args.core line))
    (line_is ∙ ap (line_of parts.machine.line_length) place_is))
