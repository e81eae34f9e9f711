use Rattle.core_threads.proofs.Results.{finishes, halts}
use Rattle.core_threads.proofs.run.outcome.Goals as goal

pub returns-in-Some-clause-finished : goal.returns-in-Some-clause-finished
returns-in-Some-clause-finished g c =
    let i = c.ended.ensures.step in
    finishes g.S.EpochStore.view c.args.book i c.in-Some.end c.ended.result c.totals.result c.args.counted (c.ended.ensures.end i.state i.replays) c.in-Some.is c.totals.ensures c.requires

pub returns-in-None-clause-halted : goal.returns-in-None-clause-halted
returns-in-None-clause-halted g c =
    let i = c.ended.ensures.step in
    halts g.S.EpochStore.view c.args.book i c.of.result c.ended.result c.stopped.result c.args.counted (c.ended.ensures.end i.state i.replays) c.in-None.is c.stopped.ensures c.of.ensures c.requires
