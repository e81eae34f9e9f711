use Rattle.turn_steps.proofs.Fixed.{steps_fixed}
use Rattle.turn_steps.proofs.laws.steps_are_fixed.Goals as goal

pub returns : goal.returns
returns g c =
    steps_fixed g.S.EpochStore.makes g.S.EpochStore.alike g.S.EpochStore.view g.S.EpochStore.waits g.S.ShownStore.changes
    c.turn_is_fixed.ensures c.calls_are_fixed.ensures.views c.changes_are_fixed.ensures
