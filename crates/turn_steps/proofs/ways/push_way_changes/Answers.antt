use Rattle.std.proofs.Common.{◌++◌, ap, ◌∙◌}
use Rattle.turn_steps.specs.Caches.{standing_at}
use Rattle.turn_steps.proofs.Places.{change_at, way_changes-none, way_changes-more}
use Rattle.turn_steps.proofs.ways.push_way_changes.Goals as goal

pub loop-place-init : goal.loop-place-init
loop-place-init c = way_changes-none c.args.text.now.items c.args.machine c.args.core (standing_at c.args.old.now) (standing_at c.args.now.now)

pub loop-place-preserved : goal.loop-place-preserved
loop-place-preserved c =
    c.in_ok-push_way_change.ensures
    ∙ (ap (λ t. t ++ change_at c.args.machine c.args.core (standing_at c.args.old.now) (standing_at c.args.now.now) c.loop-place.place) c.loop-place.invariant
    ∙ way_changes-more c.args.text.now.items c.args.machine c.args.core (standing_at c.args.old.now) (standing_at c.args.now.now) c.loop-place.place)
