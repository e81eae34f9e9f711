use Rattle.std.proofs.Common.{◌≡◌, length, slice_index, refl, sym, ap, ◌∙◌, arith, rules}
use Rattle.rv32_image.proofs.Bounds.{most_few}
use Rattle.violations.specs.Plain.{PlainView}
use Rattle.violations.proofs.Opening.{fresh_settled, fresh_fit, idle_out}
use Rattle.violations.proofs.plain.PlainStoreEpochStore.fresh.Goals as goal

pub invariant_of-result : goal.invariant_of-result
invariant_of-result c =
    let image = c.args.image.now in
    let items : c.in_ok-committed.committed.items ≡ image.bytes = search rules in
    let p : PlainView = record { code = c.code.result; machine = c.machine.result; committed = c.in_ok-committed.committed.items; states = c.in_ok-states.states.items; budget = 0 } in
    let long : length p.committed ≡ c.size.result = ap length items ∙ (c.size.ensures.limits.byte_count ∙ sym c.size.ensures.size) in
    let few = most_few image.version in record {
      size = sym long;
      fit = fresh_fit p refl (omega (arith, long, c.size.ensures.size, c.size.ensures.limits.size_least)) (omega (arith, long, c.size.ensures.size, c.size.ensures.limits.size_most))
          (omega (arith, c.in_ok-states.ensures.count, c.requires.cores.most, few)) (c.in_ok-states.ensures.idle (length p.committed));
      settled = fresh_settled p (length p.committed) (c.in_ok-states.ensures.idle (length p.committed));
    }

pub returns-clause-fresh : goal.returns-clause-fresh
returns-clause-fresh c =
    let image = c.args.image.now in
    let items : c.in_ok-committed.committed.items ≡ image.bytes = search rules in
    let size = ap length items ∙ c.size.ensures.limits.byte_count in
    let count = c.in_ok-states.ensures.count in
    let code = c.code.ensures.code in
    let machine = c.machine.ensures.machine in record {
      shape = cc (size, count, code, machine);
      committed = λ a. ap (λ xs. slice_index xs a) items;
      idle = λ k. (idle_out c.size.result c.in_ok-states.states.items (c.in_ok-states.ensures.idle c.size.result) k).attempt;
    }

pub returns-clause-starts : goal.returns-clause-starts
returns-clause-starts c = record { settled = (invariant_of-result c).settled; fresh = returns-clause-fresh c }
