use Rattle.std.proofs.Common.{◌≡◌, ◌<◌, ◌≤◌, ◌==◌, ◌&&◌, not, is_some, true, ℕ, length, sym, ap, ◌∙◌, arith, ne_eqb}
use Rattle.std.proofs.lemmas.Bool.{not-false}
use Rattle.spec_history.specs.Machine.{cores_of}
use Rattle.spec_history.proofs.Searches.Tests.{all_fail, one_passes}
use Rattle.spec_history.proofs.CodedCores.CoreStates.{core_there, state_there}
use Rattle.spec_history.proofs.machine.Machine.other_runs.Goals as goal

pub returns-then-not-is_idle : goal.returns-then-not-is_idle
returns-then-not-is_idle c =
    let cores = c.args.self.now.cores.items in
    let below : c.loop-k.k < length c.deref-core-items.result.now = omega (arith, c.loop-k-test.true) in
    let there = core_there cores c.deref-core-items.result.now c.loop-k.k c.core-item.result c.deref-core-items.ensures.value below c.core-item.is in
    let runs = ap (λ core. is_some core) (state_there cores c.loop-k.k c.core-item.result there) ∙ not-false _ (sym c.is_idle.ensures ∙ c.if-not-is_idle.true) in
    let test = λ (k : ℕ). not (k == c.args.by) && is_some (cores_of cores k) in
    let passes : test c.loop-k.k ≡ true = rw (ne_eqb c.loop-k.k c.args.by c.if-k-by.true) runs in
    sym (one_passes (length cores) test c.loop-k.k (omega (arith, ap length c.deref-core-items.ensures.value)) passes)

pub returns : goal.returns
returns c =
    let cores = c.args.self.now.cores.items in
    let all : length cores ≤ c.loop-k.k = omega (arith, c.loop-k-test.false, ap length c.deref-core-items.ensures.value) in
    sym (all_fail (length cores) (λ k. not (k == c.args.by) && is_some (cores_of cores k)) (λ k below. c.loop-k.invariant k (omega arith)))
