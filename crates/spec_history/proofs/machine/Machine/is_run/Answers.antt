use Rattle.std.proofs.Common.{◌<◌, ◌≤◌, length, refl, sym, ap, ◌∙◌, arith}
use Rattle.spec_history.specs.Refusal.{is_at}
use Rattle.spec_history.specs.Machine.{cores_of}
use Rattle.spec_history.proofs.Searches.Tests.{all_fail, one_passes}
use Rattle.spec_history.proofs.CodedCores.CoreStates.{core_there, state_there, also_at}
use Rattle.spec_history.proofs.machine.Machine.is_run.Goals as goal

pub returns-then-is_at : goal.returns-then-is_at
returns-then-is_at c =
    let cores = c.args.self.now.cores.items in
    let below : c.loop-core.core-index < length c.deref-core-items.result.now = omega (arith, c.loop-core-test.true) in
    let there = core_there cores c.deref-core-items.result.now c.loop-core.core-index c.core-item.result c.deref-core-items.ensures.value below c.core-item.is in
    let passes = ap (is_at c.args.epoch) (state_there cores c.loop-core.core-index c.core-item.result there) ∙ sym c.if-is_at.ensures in
    sym (one_passes (length cores) (λ k. is_at c.args.epoch (cores_of cores k)) c.loop-core.core-index (omega (arith, ap length c.deref-core-items.ensures.value)) passes)

pub loop-core-preserved : goal.loop-core-preserved
loop-core-preserved c =
    let xs = c.deref-core-items.result.now in
    let below : c.loop-core.core-index < length xs = omega (arith, c.loop-core-test.true) in
    let there = core_there xs xs c.loop-core.core-index c.core-item.result refl below c.core-item.is in
    let fails = ap (is_at c.args.epoch) (state_there xs c.loop-core.core-index c.core-item.result there) ∙ sym c.if-is_at.ensures in
    also_at (λ k. is_at c.args.epoch (cores_of xs k)) c.loop-core.core-index c.loop-core.invariant fails

pub returns : goal.returns
returns c =
    let cores = c.args.self.now.cores.items in
    let all : length cores ≤ c.loop-core.core-index = omega (arith, c.loop-core-test.false, ap length c.deref-core-items.ensures.value) in
    sym (all_fail (length cores) (λ k. is_at c.args.epoch (cores_of cores k))
    (λ k below. ap (λ xs. is_at c.args.epoch (cores_of xs k)) (sym c.deref-core-items.ensures.value) ∙ c.loop-core.invariant k (omega arith)))
