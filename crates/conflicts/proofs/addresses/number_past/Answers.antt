use Rattle.std.proofs.Common.{◌≡◌, ◌+◌, ◌-◌, ◌/◌, ap, ◌∙◌, arith}
use Rattle.rv32_image.specs.declared.machine.Machine.{Machine}
use Rattle.rv32_image.specs.Places.{place}
use Rattle.rv32_image.proofs.Places.{place-up}
use Rattle.conflicts.proofs.LineBytes.{number_past}
use Rattle.conflicts.proofs.addresses.number_past.Goals as goal

pub overflow_sub-result : goal.overflow_sub-result
overflow_sub-result c =
    let image = c.args.image.now in
    let size_is : c.size-size.result ≡ image.size = c.size-size.ensures.size in
    let place_is : c.place.result ≡ place image.machine image.size image.size = c.place.ensures.place ∙ ap (place image.machine image.size) size_is in
    let up = place-up image.machine image.size image.size image.size c.size-size.ensures.limits.machine_allowed (omega arith) (omega arith) in
    omega (arith, up, size_is, place_is)

pub returns : goal.returns
returns c =
    let image = c.args.image.now in
    let size_is : c.size-size.result ≡ image.size = c.size-size.ensures.size in
    let behind : c.place.result - c.size-size.result ≡ place image.machine image.size image.size - image.size =
    ap (λ p. p - c.size-size.result) (c.place.ensures.place ∙ ap (place image.machine image.size) size_is) ∙ ap (λ s. place image.machine image.size image.size - s) size_is in
    let long_is : c.machine-long.result.line_length ≡ image.machine.line_length = ap (λ (m : Machine). m.line_length) c.machine-long.ensures.machine in
    ap (λ b. c.args.addr / c.machine-long.result.line_length + b / c.machine-long.result.line_length) behind
    ∙ (ap (λ n. c.args.addr / n + (place image.machine image.size image.size - image.size) / n) long_is
    ∙ number_past image c.machine-long.ensures.limits.machine_allowed c.args.addr c.requires)
