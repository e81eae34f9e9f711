use Rattle.gain.proofs.Adds.{adds_more}
use Rattle.gain.proofs.lines.push_each.Goals as goal

pub loop-cores-init : goal.loop-cores-init
loop-cores-init g c = λ new adds. adds

pub loop-cores-preserved : goal.loop-cores-preserved
loop-cores-preserved g c =
    adds_more g.S.EpochStore.starts g.S.EpochStore.makes g.S.EpochStore.view g.S.EpochStore.waits g.S.PricedStore.prices g.S.PricedStore.keeps c.args.waiting.now c.args.runs.now.image.now c.args.runs.now.room c.args.runs.now.store.now c.args.runs.now.base c.args.counts.now c.args.text.now.items
    c.loop-cores.cores-index c.loop-cores.text.items c.push_line.new.text.items c.push_held.new.text.items c.in_ok-measured.measured c.loop-cores-test.true c.loop-cores.invariant
    c.in_ok-measured.ensures.is c.in_ok-push_line.ensures c.in_ok-push_held.ensures
