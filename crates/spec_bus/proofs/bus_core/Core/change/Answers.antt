use Rattle.std.proofs.Common.{refl, ap, sym, ◌∙◌, slice_index}
use Rattle.cache_lines.specs.Lines.{Contents}
use Rattle.cache_lines.proofs.Ways.{way_at-stands}
use Rattle.spec_bus.proofs.CoreCopies.{same_state, changed_found, changed_absent, way_found}
use Rattle.spec_bus.proofs.bus_core.Core.change.Goals as goal
use Rattle.spec_bus.proofs.bus_core.Core.change.Goals.{in-Some, in_default}

pub returns : goal.returns
returns c =
    rw (c.enter_if.ensures.cache, c.enter_if.ensures.attempt, c.enter_if.ensures.orb)
    (elim c.match-find.branch [
      | in-Some w ↦ rw w.self-is
          (same_state _ _ _ _ _ _ _ _ _ _ _ _ (ap (λ (cache : Contents). cache.line_length) w.fill.ensures.exact) (ap (λ (cache : Contents). cache.geometry) w.fill.ensures.exact)
          (changed_found c.args.self.now.cache w.fill.new.self c.args.addr w.in-Some.way c.args.next c.args.cells w.in-Some.ensures.found w.fill.ensures.copies)
          (way_found c.args.self.now.cache w.fill.new.self c.args.addr w.in-Some.way c.args.next c.args.cells (sym c.find.ensures.value ∙ w.in-Some.is) w.fill.ensures.ways) refl refl)
      | in_default w ↦ rw w.self-is
          (same_state _ _ _ _ _ _ _ _ _ _ _ _ refl refl
          (changed_absent c.args.self.now.cache c.args.addr c.args.next (slice_index c.args.cells) w.in_default.ensures.absent c.requires.held) (way_at-stands c.args.self.now.cache) refl refl)
    ])
