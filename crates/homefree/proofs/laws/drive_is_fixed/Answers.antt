use Rattle.homefree.proofs.Fixed.Driving.{drive_fixed}
use Rattle.homefree.proofs.laws.drive_is_fixed.Goals as goal

pub returns : goal.returns
returns g c = drive_fixed g.S.EpochStore.makes g.S.EpochStore.alike g.S.EpochStore.view g.S.EpochStore.waits c.turn_is_fixed.ensures
