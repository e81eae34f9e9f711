use Rattle.std.proofs.Common.{sym, ap, ◌∙◌, add-one}
use Rattle.dependences.specs.Kept.{load_behind, nearer}
use Rattle.dependences.proofs.Writers.{load_more, load_none}
use Rattle.dependences.proofs.nearest.nearer_of.Goals as goal

pub loop-i-init : goal.loop-i-init
loop-i-init c = load_none c.args.writers.now c.args.epoch c.args.addr c.args.nearest

pub loop-i-preserved : goal.loop-i-preserved
loop-i-preserved c =
    let front = load_behind c.args.writers.now c.args.epoch c.args.addr c.loop-i.i c.args.nearest in
    rw (add-one c.loop-i.i) (c.nearer-nearest.ensures ∙ (ap (λ o. nearer o c.behind.result) c.loop-i.invariant
    ∙ (ap (λ o. nearer front o) c.behind.ensures ∙ sym (load_more c.args.writers.now c.args.epoch c.args.addr c.loop-i.i c.args.nearest))))
