use Rattle.std.proofs.Common.{◌+◌, ℕ, List, length, slice_index, slice_set, sym, ap, ◌∙◌, arith}
use Rattle.rv32_image.specs.Places.{place}
use Rattle.spec_bus.proofs.Laying.{laid-length, laid-more, laid-none}
use Rattle.spec_bus.proofs.memory.lay.Goals as goal

pub loop-n-init : goal.loop-n-init
loop-n-init c =
    let limits = c.requires.limits in c.requires.lines ∙ sym (laid-none c.args.image.now limits.machine_allowed limits.byte_count c.args.apart.first)

pub put-requires-clause-within : goal.put-requires-clause-within
put-requires-clause-within c =
    let f = c.requires.limits.machine_allowed.apart c.args.apart c.requires.apart in
    omega (arith, f.within, c.loop-n-test.true)

pub put-requires-clause-long : goal.put-requires-clause-long
put-requires-clause-long c =
    let limits = c.requires.limits in
    ap length c.loop-n.invariant ∙ laid-length c.args.image.now limits.machine_allowed limits.byte_count c.args.apart.first c.loop-n.n

pub loop-n-preserved : goal.loop-n-preserved
loop-n-preserved c =
    let image = c.args.image.now in
    let limits = c.requires.limits in
    let addr = c.args.apart.first + c.loop-n.n in
    c.put.ensures
    ∙ (ap (λ (xs : List ℕ). slice_set xs (place image.machine image.size addr) (slice_index image.bytes addr)) c.loop-n.invariant
    ∙ laid-more image limits.machine_allowed limits.byte_count c.args.apart.first c.loop-n.n (c.loop-n.n + 1) (omega arith))

pub overflow_add-apart : goal.overflow_add-apart
overflow_add-apart c =
    let f = c.requires.limits.machine_allowed.apart c.args.apart c.requires.apart in
    omega (arith, f.within, c.requires.limits.size_most, c.loop-n-test.true)
