use Rattle.std.proofs.Common.{ℕ, ◌-◌, Bool, false, refl, subst, arith}
use Rattle.all_schedules.specs.Made.{the_loop}
use Rattle.gain.specs.Evens.{Compares, costs_at}
use Rattle.gain.proofs.Evens.{one_below}
use Rattle.gain.proofs.even_lines.even_at.Goals as goal

pub loop-tried-init : goal.loop-tried-init
loop-tried-init g c = λ j over most. absurd (omega (arith, over, most))

pub loop-tried-preserved : goal.loop-tried-preserved
loop-tried-preserved g c =
    let l = the_loop c.args.on.now in
    let at = λ (j : ℕ) (gains : Bool). Compares g.S.EpochStore.starts g.S.EpochStore.makes g.S.EpochStore.view g.S.EpochStore.waits g.S.PricedStore.prices g.S.PricedStore.keeps c.args.asked.now.addresses.now l (costs_at c.args.asked.now.study.now j) gains in
    one_below (λ j. at j false) c.loop-tried.tried (60 - c.loop-tried.tried) refl (omega (arith, c.loop-tried-test.true)) c.loop-tried.invariant
    (subst (at (60 - c.loop-tried.tried)) c.if-branch.false c.in_ok-gains_at.ensures)
