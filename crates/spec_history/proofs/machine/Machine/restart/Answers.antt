use Rattle.std.proofs.Common.{rules, ◌<◌, length, Some, refl, ap, ◌∙◌, slice_index}
use Rattle.spec_history.specs.declared.entry.What.TheVariants.{Restart}
use Rattle.spec_history.specs.FlatState.{begun}
use Rattle.spec_history.specs.Machine.{state_of}
use Rattle.spec_history.proofs.CodedCores.Performed.{finds, finds_core, epoch_is, becomes}
use Rattle.spec_history.proofs.Replay.Replays.{effect-on}
use Rattle.spec_history.proofs.machine.Machine.restart.Goals as goal

pub index_mut-core-requires : goal.index_mut-core-requires
index_mut-core-requires c =
    let found = finds c.args.self.now c.args.by Restart tt c.requires.legal in
    let below : c.args.by < length c.args.self.now.cores.items = found.below in search rules

pub attempt-requires : goal.attempt-requires
attempt-requires c =
    let f = finds_core c.args.self.now c.args.by Restart c.index_mut-core.result.now tt c.requires.fit c.requires.legal c.index_mut-core.ensures.value in
    rw f.attempted refl

pub returns : goal.returns
returns c =
    let m = c.args.self.now in
    let f = finds_core c.args.self.now c.args.by Restart c.index_mut-core.result.now tt c.requires.fit c.requires.legal c.index_mut-core.ensures.value in
    let epoch = epoch_is m c.args.by Restart c.index_mut-core.result.now f c.attempt.result.now c.attempt.ensures in
    becomes m _ c.args.by Restart c.begin.new.self (Some (begun m.image f.found.state.epoch)) (λ a. slice_index m.committed.items a) c.requires.fit f.found.below refl refl
    refl (c.begin.ensures.fit f.fit) (c.begin.ensures.core ∙ ap (λ e. Some (begun m.image e)) epoch) (λ a. refl)
    (effect-on m.image (state_of m) c.args.by Restart f.found.state f.found.runs)
