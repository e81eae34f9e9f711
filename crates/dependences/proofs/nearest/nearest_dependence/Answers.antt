use Rattle.dependences.proofs.Following.{nearest_of}
use Rattle.dependences.proofs.nearest.nearest_dependence.Goals as goal

pub returns : goal.returns
returns c =
    let ran = c.run_all-ran.ensures in
    nearest_of c.args.image.now c.run_all-ran.result.epochs c.run_all-ran.result.nearest
    (λ earlier later depends. ran.all.no_more later depends.within depends.in_order) ran.kept.least
