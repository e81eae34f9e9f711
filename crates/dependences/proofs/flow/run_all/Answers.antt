use Rattle.std.proofs.Common.{◌≡◌, sym, ap, subst, ◌∙◌, arith}
use Rattle.rv32_exec.specs.Sequential.{SequentialResult}
use Rattle.epoch_paths.specs.InOrder.{AreAll}
use Rattle.dependences.specs.KeptRun.{IsLeft}
use Rattle.dependences.proofs.Ending.{all_left, left_next}
use Rattle.dependences.proofs.Running.{all_run, run_more}
use Rattle.dependences.proofs.flow.run_all.Goals as goal

pub loop-epoch-init : goal.loop-epoch-init
loop-epoch-init g c = record { left = c.requires.left; kept = c.requires.kept; size = c.requires.size }

pub loop-epoch-preserved : goal.loop-epoch-preserved
loop-epoch-preserved g c =
    let image = c.args.image.now in
    let epoch = c.loop-epoch.epoch in
    let ran = c.in_ok-ran.ran in
    let before = subst (IsLeft image epoch c.loop-epoch.memory) c.if-not-goes_on.false c.loop-epoch.invariant.left in
    record {
      left = left_next image epoch c.follow.new.memory ran.goes_on (omega (arith, c.loop-epoch-test.true, c.epochs-epoch-end.ensures.epochs)) (ap (λ (r : SequentialResult). r.end) before)
          c.in_ok-ran.ensures.next;
      kept = run_more g.F.Found.keeps image epoch ran.length c.loop-epoch.flow c.follow.new.flow c.loop-epoch.lengths.items c.add.new.lengths.items c.loop-epoch.invariant.kept
          c.in_ok-ran.ensures.kept c.in_ok-ran.ensures.lasts c.in_ok-add.ensures;
      size = c.follow.auto.memory ∙ c.loop-epoch.invariant.size;
    }

pub returns-then-not-goes_on : goal.returns-then-not-goes_on
returns-then-not-goes_on g c =
    let all = subst (IsLeft c.args.image.now c.loop-epoch.epoch c.loop-epoch.memory) c.if-not-goes_on.true c.loop-epoch.invariant.left in
    all_run g.F.Found.keeps c.args.image.now c.loop-epoch.epoch c.loop-epoch.flow c.loop-epoch.lengths.items all c.loop-epoch.invariant.kept

pub returns : goal.returns
returns g c =
    let image = c.args.image.now in
    let last : c.loop-epoch.epoch ≡ image.epochs = omega (arith, c.requires.most, c.epochs-epoch-end.ensures.epochs, c.loop-epoch-test.false) in
    let all = all_left image c.loop-epoch.memory c.loop-epoch.goes_on (subst (λ n. IsLeft image n c.loop-epoch.memory c.loop-epoch.goes_on) last c.loop-epoch.invariant.left) in
    all_run g.F.Found.keeps image c.loop-epoch.epoch c.loop-epoch.flow c.loop-epoch.lengths.items (subst (AreAll image) (sym last) all) c.loop-epoch.invariant.kept
