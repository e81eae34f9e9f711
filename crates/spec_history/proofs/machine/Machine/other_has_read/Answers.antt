use Rattle.std.proofs.Common.{◌≡◌, ◌<◌, ◌≤◌, ◌==◌, ◌&&◌, not, true, false, ℕ, length, refl, sym, ap, ◌∙◌, arith, ne_eqb, eq-eqb}
use Rattle.spec_history.specs.Refusal.{has_read}
use Rattle.spec_history.specs.Machine.{cores_of}
use Rattle.spec_history.proofs.Searches.Tests.{all_fail, one_passes}
use Rattle.spec_history.proofs.CodedCores.CoreStates.{core_there, state_there, also_at}
use Rattle.spec_history.proofs.machine.Machine.other_has_read.Goals as goal
use Rattle.spec_history.proofs.machine.Machine.other_has_read.Goals.{else-k-by-via-then-k-by+else-has_read, else-k-by-via-else-k-by}

pub returns-then-has_read : goal.returns-then-has_read
returns-then-has_read c =
    let cores = c.args.self.now.cores.items in
    let below : c.loop-k.k < length c.deref-core-items.result.now = omega (arith, c.loop-k-test.true) in
    let there = core_there cores c.deref-core-items.result.now c.loop-k.k c.core-item.result c.deref-core-items.ensures.value below c.core-item.is in
    let reads = ap (λ core. has_read core c.args.addr) (state_there cores c.loop-k.k c.core-item.result there) ∙ sym c.if-has_read.ensures in
    let test = λ (k : ℕ). not (k == c.args.by) && has_read (cores_of cores k) c.args.addr in
    let passes : test c.loop-k.k ≡ true = rw (ne_eqb c.loop-k.k c.args.by c.if-k-by.true) reads in
    sym (one_passes (length cores) test c.loop-k.k (omega (arith, ap length c.deref-core-items.ensures.value)) passes)

pub loop-k-preserved : goal.loop-k-preserved
loop-k-preserved c =
    let cores = c.args.self.now.cores.items in
    let below : c.loop-k.k < length c.deref-core-items.result.now = omega (arith, c.loop-k-test.true) in
    let there = core_there cores c.deref-core-items.result.now c.loop-k.k c.core-item.result c.deref-core-items.ensures.value below c.core-item.is in
    let test = λ (k : ℕ). not (k == c.args.by) && has_read (cores_of cores k) c.args.addr in
    let fails : test c.loop-k.k ≡ false = elim c.else-k-by.branch [
      | else-k-by-via-then-k-by+else-has_read w ↦
          let unread = ap (λ core. has_read core c.args.addr) (state_there cores c.loop-k.k c.core-item.result there) ∙ sym w.if-has_read.ensures in
          rw (ne_eqb c.loop-k.k c.args.by w.if-k-by.true) unread
      | else-k-by-via-else-k-by w ↦ rw (eq-eqb c.loop-k.k c.args.by w.if-k-by.false) refl
    ] in
    also_at test c.loop-k.k c.loop-k.invariant fails

pub returns : goal.returns
returns c =
    let cores = c.args.self.now.cores.items in
    let all : length cores ≤ c.loop-k.k = omega (arith, c.loop-k-test.false, ap length c.deref-core-items.ensures.value) in
    sym (all_fail (length cores) (λ k. not (k == c.args.by) && has_read (cores_of cores k) c.args.addr) (λ k below. c.loop-k.invariant k (omega arith)))
