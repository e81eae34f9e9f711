use Rattle.std.proofs.Common.{◌≡◌, length, sym, subst, arith}
use Rattle.epoch_paths.specs.InOrder.{AreAll}
use Rattle.depends.proofs.lines.print_lines.Goals as goal

pub push_stores-requires-clause-seen : goal.push_stores-requires-clause-seen
push_stores-requires-clause-seen g c =
    let image = c.args.image.now in
    let ran = c.in_ok-ran.ensures in
    let most = ran.lengths.all.most in
    let few : c.min.result ≡ length c.in_ok-ran.ran.run.lengths.items = grind (arith, most) in
    record {
      ran = record { all = subst (AreAll image) (sym few) ran.lengths.all; nearest = ran.nearest; later = ran.later };
      over = rw (← c.count.ensures.value) ran.over;
    }
