use Rattle.std.proofs.Common.{◌≡◌, ◌*◌, ◌/◌, ◌%◌, ap, ◌∙◌, sym}
use Rattle.rv32_image.specs.declared.machine.Machine.{Machine}
use Rattle.spec_bus.specs.Cached.{line_in}
use Rattle.turn_steps.specs.Caches.{line_at}
use Rattle.turn_steps.proofs.BusRows.{lines_none, lines_more}
use Rattle.turn_steps.proofs.caches.ways_of.Goals as goal

pub loop-place-init : goal.loop-place-init
loop-place-init c = c.new-lines.ensures.items ∙ sym (lines_none c.args.placed.now.machine c.args.placed.now.caches.now c.args.core)

pub loop-place-preserved : goal.loop-place-preserved
loop-place-preserved c =
    let sizes = c.sizes-machine.result in
    let place = c.loop-place.place in
    let line : c.line_in.result.now ≡ line_in c.args.placed.now.caches.now c.args.core (place / sizes.ways * sizes.line_length) (place % sizes.ways) = c.line_in.ensures in
    lines_more c.args.placed.now.machine c.args.placed.now.caches.now c.args.core place c.loop-place.lines.items c.push.new.self.items c.line_in.result.now c.loop-place.invariant
    (line ∙ ap (λ (m : Machine). line_at m c.args.placed.now.caches.now c.args.core place) c.sizes-machine.ensures.value) c.in_ok-push.ensures.items
