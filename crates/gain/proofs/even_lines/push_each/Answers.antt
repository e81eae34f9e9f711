use Rattle.gain.proofs.Evens.{evens_more}
use Rattle.gain.proofs.even_lines.push_each.Goals as goal

pub loop-cores-init : goal.loop-cores-init
loop-cores-init g c = λ new adds. adds

pub loop-cores-preserved : goal.loop-cores-preserved
loop-cores-preserved g c =
    evens_more g.S.EpochStore.starts g.S.EpochStore.makes g.S.EpochStore.view g.S.EpochStore.waits g.S.PricedStore.prices g.S.PricedStore.keeps c.args.asked.now.addresses.now c.args.asked.now.study.now c.args.asked.now.image.now c.args.store.now c.args.counts.now c.args.text.now.items
    c.loop-cores.cores-index c.loop-cores.text.items c.push_even.new.text.items c.loop-cores-test.true c.loop-cores.invariant c.in_ok-push_even.ensures
