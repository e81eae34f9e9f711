use Rattle.all_schedules.proofs.Fixed.{drawn_history_fixed}
use Rattle.all_schedules.proofs.laws.drawn_history_is_fixed.Goals as goal

pub returns : goal.returns
returns g c =
    drawn_history_fixed g.S.EpochStore.starts g.S.EpochStore.makes g.S.EpochStore.alike g.S.EpochStore.view g.S.EpochStore.waits c.calls_are_fixed.ensures.starts c.drive_is_fixed.ensures
