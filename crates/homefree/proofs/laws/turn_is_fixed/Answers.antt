use Rattle.homefree.proofs.Fixed.Turning.{turn_fixed}
use Rattle.homefree.proofs.laws.turn_is_fixed.Goals as goal

pub returns : goal.returns
returns g c =
    let laws = c.calls_are_fixed.ensures in
    turn_fixed g.S.EpochStore.makes g.S.EpochStore.alike g.S.EpochStore.view g.S.EpochStore.waits (record { fixed = laws.fixed; views = laws.views; waiting = laws.waits })
