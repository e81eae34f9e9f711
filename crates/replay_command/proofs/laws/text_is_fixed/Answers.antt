use Rattle.replay_command.proofs.Fixed.{text_fixed}
use Rattle.replay_command.proofs.laws.text_is_fixed.Goals as goal

pub returns : goal.returns
returns g c =
    text_fixed g.S.EpochStore.starts g.S.EpochStore.makes g.S.EpochStore.alike g.S.EpochStore.view g.S.EpochStore.waits c.calls_are_fixed.ensures.starts
    g.S.ShownStore.changes c.steps_are_fixed.ensures
