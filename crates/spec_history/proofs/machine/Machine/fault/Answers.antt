use Rattle.std.proofs.Common.{rules, ◌<◌, length, Some, refl, sym, ap, ◌∙◌, arith}
use Rattle.memory_bytes.specs.Maps.{over}
use Rattle.rv32_exec.specs.declared.sequential.End.TheVariants as end
use Rattle.rv32_exec.specs.Hart.{HartState}
use Rattle.spec_history.specs.declared.entry.What.TheVariants.{Fault}
use Rattle.spec_history.specs.Effect.{effect_on}
use Rattle.spec_history.specs.Machine.{state_of}
use Rattle.spec_history.proofs.CodedCores.CoreStates.{kept_own}
use Rattle.spec_history.proofs.CodedCores.Performed.{finds, finds_core, event_now, epoch_is, becomes_still}
use Rattle.spec_history.proofs.Replay.Replays.{effect-on}
use Rattle.spec_history.proofs.machine.Machine.fault.Goals as goal

pub index-core-requires : goal.index-core-requires
index-core-requires c =
    let found = finds c.args.self.now c.args.by (Fault c.args.cause c.args.pc) tt c.requires.legal in
    let below : c.args.by < length c.args.self.now.cores.items = found.below in search rules

pub attempt-attempt-requires : goal.attempt-attempt-requires
attempt-attempt-requires c =
    let f = finds_core c.args.self.now c.args.by (Fault c.args.cause c.args.pc) c.index-core.result.now tt c.requires.fit c.requires.legal c.index-core.ensures in
    rw f.attempted refl

pub commit-requires : goal.commit-requires
commit-requires c =
    let f = finds_core c.args.self.now c.args.by (Fault c.args.cause c.args.pc) c.index-core.result.now tt c.requires.fit c.requires.legal c.index-core.ensures in omega (arith, f.fit.own, c.requires.fit.committed)

pub returns : goal.returns
returns c =
    let m = c.args.self.now in
    let what = Fault c.args.cause c.args.pc in
    let f = finds_core c.args.self.now c.args.by (Fault c.args.cause c.args.pc) c.index-core.result.now tt c.requires.fit c.requires.legal c.index-core.ensures in
    let now = event_now m c.args.by what c.index-core.result.now f c.attempt-attempt.result.now c.attempt-attempt.ensures in
    let epoch = epoch_is m c.args.by what c.index-core.result.now f c.attempt-attempt.result.now c.attempt-attempt.ensures in
    let done = c.done-self.ensures ∙ ap (λ (h : HartState). h.done) (c.now.ensures ∙ now) in
    becomes_still m _ c.args.by what (over f.found.state.own (state_of m).committed) c.requires.fit refl refl c.commit.ensures.long
    (λ a. c.commit.ensures.bytes a ∙ ap (λ o. over o (state_of m).committed a) (sym (kept_own c.index-core.result.now f.found.state f.runs)))
    (effect-on m.image (state_of m) c.args.by what f.found.state f.found.runs
    ∙ (ap (λ n. record (effect_on m.image (state_of m) c.args.by f.found.state what) { published = n }) (sym done)
    ∙ ap (λ n. record (effect_on m.image (state_of m) c.args.by f.found.state what) { published = c.done-self.result; end = Some (end.Fault n c.args.cause c.args.pc) }) (sym epoch)))
