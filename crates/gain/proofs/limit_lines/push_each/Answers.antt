use Rattle.gain.proofs.Adds.{limits_more}
use Rattle.gain.proofs.limit_lines.push_each.Goals as goal

pub loop-cores-init : goal.loop-cores-init
loop-cores-init c = λ new adds. adds

pub loop-cores-preserved : goal.loop-cores-preserved
loop-cores-preserved c =
    limits_more c.args.image.now c.args.counts.now c.args.text.now.items c.loop-cores.cores-index c.loop-cores.text.items c.push_limit.new.text.items c.loop-cores-test.true
    c.loop-cores.invariant c.in_ok-push_limit.ensures
