use Rattle.std.proofs.Common.{rules, ◌<◌, length, true, Some, option_map, refl, sym, ap, ◌∙◌, arith}
use Rattle.memory_bytes.specs.Maps.{over}
use Rattle.spec_history.specs.declared.entry.What.TheVariants.{Publish}
use Rattle.spec_history.specs.Effect.{effect_on, after_publish}
use Rattle.spec_history.specs.Cores.{published_by}
use Rattle.spec_history.specs.Machine.{state_of}
use Rattle.spec_history.proofs.CodedCores.CoreStates.{kept_own}
use Rattle.spec_history.proofs.CodedCores.Performed.{finds, finds_core, published_now, becomes}
use Rattle.spec_history.proofs.Replay.Replays.{effect-on}
use Rattle.spec_history.proofs.machine.Machine.publish.Goals as goal

pub index_mut-core-requires : goal.index_mut-core-requires
index_mut-core-requires c =
    let found = finds c.args.self.now c.args.by Publish tt c.requires.legal in
    let below : c.args.by < length c.args.self.now.cores.items = found.below in search rules

pub commit-requires : goal.commit-requires
commit-requires c =
    let f = finds_core c.args.self.now c.args.by Publish c.index_mut-core.result.now tt c.requires.fit c.requires.legal c.index_mut-core.ensures.value in omega (arith, f.fit.own, c.requires.fit.committed)

pub returns-in-Some : goal.returns-in-Some
returns-in-Some c =
    let m = c.args.self.now in
    let f = finds_core c.args.self.now c.args.by Publish c.index_mut-core.result.now tt c.requires.fit c.requires.legal c.index_mut-core.ensures.value in
    let core = c.publish.ensures.core ∙ ap (option_map after_publish) f.runs in
    let published = published_now true f.found.state.hart.done c.in-Some.done m.published (c.in-Some.ensures ∙ ap published_by core) in
    becomes m _ c.args.by Publish c.publish.new.self (Some (after_publish f.found.state)) (over f.found.state.own (state_of m).committed) c.requires.fit f.found.below refl refl
    c.commit.ensures.long (c.publish.ensures.fit m.image f.fit) core
    (λ a. c.commit.ensures.bytes a ∙ ap (λ o. over o (state_of m).committed a) (sym (kept_own c.index_mut-core.result.now f.found.state f.runs)))
    (effect-on m.image (state_of m) c.args.by Publish f.found.state f.found.runs
    ∙ ap (λ n. record (effect_on m.image (state_of m) c.args.by f.found.state Publish) { published = n }) (sym published.1))

pub returns-in_default : goal.returns-in_default
returns-in_default c =
    let m = c.args.self.now in
    let f = finds_core c.args.self.now c.args.by Publish c.index_mut-core.result.now tt c.requires.fit c.requires.legal c.index_mut-core.ensures.value in
    let core = c.publish.ensures.core ∙ ap (option_map after_publish) f.runs in
    let none = sym c.in_default.is ∙ (c.published.ensures ∙ ap published_by core) in absurd cc
