use Rattle.core_threads.proofs.Turning.{handed_no_more, may_release, after_turn}
use Rattle.core_threads.proofs.Taking.{takes_turn}
use Rattle.core_threads.proofs.turns.one_turn.Goals as goal

pub act-after-requires-clause-shares : goal.act-after-requires-clause-shares
act-after-requires-clause-shares g c κs within =
    handed_no_more c.args.pass c.in-Ok.held.pass c.in-Ok.held.value c.value.result.now c.args.shares.now c.in-Ok.ensures.pass c.in-Ok.ensures.own c.value.ensures.shows c.requires.counted.counted

pub release-requires-clause-grown : goal.release-requires-clause-grown
release-requires-clause-grown g c κs within =
    may_release c.args.pass c.in-Ok.held.pass c.in-Ok.held.value c.value.result.now c.act-after.new.book c.who-core.result c.args.shares.now c.act-after.new.shares
    c.in-Ok.ensures.pass c.value.ensures.shows c.who-core.ensures c.act-after.ensures.adds

pub returns-in-Ok-clause-counted : goal.returns-in-Ok-clause-counted
returns-in-Ok-clause-counted g c =
    after_turn c.args.pass c.in-Ok.held.pass c.release.result c.in-Ok.held.value c.value.result.now c.act-after.new.book c.who-core.result c.args.shares.now c.act-after.new.shares
    c.in-Ok.ensures.pass c.in-Ok.ensures.own c.value.ensures.shows c.in-Ok.ensures.numbers c.who-core.ensures c.requires.counted.counted c.act-after.ensures.adds c.act-after.ensures.few
    c.release.ensures

pub returns-in-Ok-clause-turn : goal.returns-in-Ok-clause-turn
returns-in-Ok-clause-turn g c = λ on.
    takes_turn g.S.EpochStore.makes g.S.EpochStore.view g.S.EpochStore.waits c.args.lock.now.fixed _ c.args.pass c.in-Ok.held.pass c.release.result c.in-Ok.held.value c.value.result.now c.act-after.new.book c.who-core.result
    c.args.shares.now c.act-after.new.shares c.args.hart.now c.act-after.new.hart c.act-after.result c.args.passed c.in-Ok.ensures.fixed c.in-Ok.ensures.begins c.value.ensures.shows c.who-core.ensures
    c.release.ensures c.act-after.ensures.takes c.act-after.ensures.shut
