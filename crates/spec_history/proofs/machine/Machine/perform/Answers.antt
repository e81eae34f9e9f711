use Rattle.std.proofs.Common.{sym, ◌∙◌}
use Rattle.spec_history.specs.declared.entry.What.TheVariants.{Hurt, Cancel}
use Rattle.spec_history.specs.Machine.{state_of, IsLegal}
use Rattle.spec_history.proofs.CodedCores.Performed.{finds}
use Rattle.spec_history.proofs.Replay.Replays.{effect-on}
use Rattle.spec_history.proofs.machine.Machine.perform.Goals as goal

pub returns-in-Hurt : goal.returns-in-Hurt
returns-in-Hurt c =
    let m = c.args.self.now in
    let what = Hurt c.in-Hurt.epoch in
    let legal : IsLegal m c.args.entry.by what = rw c.in-Hurt.is at c.requires.legal in
    let found = finds m c.args.entry.by what tt legal in
    let effect = effect-on m.image (state_of m) c.args.entry.by what found.state found.runs in
    rw c.in-Hurt.is (record { image = c.hurt.ensures.image; state = c.hurt.ensures.state ∙ sym effect; count = c.hurt.ensures.count; fit = c.hurt.ensures.fit })

pub returns-in-Cancel : goal.returns-in-Cancel
returns-in-Cancel c =
    let m = c.args.self.now in
    let what = Cancel c.in-Cancel.epoch in
    let legal : IsLegal m c.args.entry.by what = rw c.in-Cancel.is at c.requires.legal in
    let found = finds m c.args.entry.by what tt legal in
    let effect = effect-on m.image (state_of m) c.args.entry.by what found.state found.runs in
    rw c.in-Cancel.is (record { image = c.cancel.ensures.image; state = c.cancel.ensures.state ∙ sym effect; count = c.cancel.ensures.count; fit = c.cancel.ensures.fit })
