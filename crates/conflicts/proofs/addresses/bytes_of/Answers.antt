use Rattle.std.proofs.Common.{◌≡◌, ◌<◌, ◌≤◌, ◌-◌, ◌*◌, ◌/◌, ℕ, Option, Some, None, refl, sym, ap, subst, ◌∙◌, arith}
use Rattle.rv32_image.specs.declared.apart.Apart.{Apart}
use Rattle.rv32_image.specs.declared.machine.Machine.{Machine}
use Rattle.rv32_image.specs.Image.{LoadedImage}
use Rattle.conflicts.proofs.LineBytes.{all_among, bytes_inside, high_bytes, low_bytes, piece_before}
use Rattle.conflicts.proofs.addresses.bytes_of.Goals as goal

lines_are : (image : LoadedImage) (machine : Machine) (size : ℕ) → machine ≡ image.machine → size ≡ image.size → size / machine.line_length ≡ image.size / image.machine.line_length
lines_are image machine size same size_is = ap (λ n. n / machine.line_length) size_is ∙ ap (λ (m : Machine). image.size / m.line_length) same

apart_is : (image : LoadedImage) (machine : Machine) (apart : Option Apart) → machine ≡ image.machine → machine.apart ≡ apart → apart ≡ image.machine.apart
apart_is image machine apart same is = sym is ∙ ap (λ (m : Machine). m.apart) same

pub returns-then-line-lines-clause-all : goal.returns-then-line-lines-clause-all
returns-then-line-lines-clause-all c =
    let image = c.args.image.now in
    all_among image c.args.line _ c.machine-long.ensures.limits.machine_allowed
    (low_bytes image c.args.line c.machine-long.result.line_length (c.size.result / c.machine-long.result.line_length) (ap (λ (m : Machine). m.line_length) c.machine-long.ensures.machine)
    (lines_are image c.machine-long.result c.size.result c.machine-long.ensures.machine c.size.ensures.size) c.if-line-lines.true)

pub piece_bytes-requires-clause-inside : goal.piece_bytes-requires-clause-inside
piece_bytes-requires-clause-inside c =
    let image = c.args.image.now in
    let apart = c.in-Some.apart in
    let lines = lines_are image c.machine-long.result c.size.result c.machine-long.ensures.machine c.size.ensures.size in
    let there = sym (apart_is image c.machine.result (Some apart) c.machine.ensures.machine c.in-Some.is) in
    subst (λ n. (c.args.line - n) * apart.piece < apart.length) (sym lines)
    (piece_before image c.machine-long.ensures.limits.machine_allowed apart c.args.line there c.requires (subst (λ n. n ≤ c.args.line) lines c.if-line-lines.false))

pub piece_bytes-requires-clause-small : goal.piece_bytes-requires-clause-small
piece_bytes-requires-clause-small c =
    let image = c.args.image.now in
    let limits = c.machine-long.ensures.limits in
    let there = sym (apart_is image c.machine.result (Some c.in-Some.apart) c.machine.ensures.machine c.in-Some.is) in
    let fits = limits.machine_allowed.apart c.in-Some.apart there in
    omega (arith, fits.within, limits.size_most)

pub returns-in-Some-clause-within : goal.returns-in-Some-clause-within
returns-in-Some-clause-within c =
    let image = c.args.image.now in
    let lines = lines_are image c.machine-long.result c.size.result c.machine-long.ensures.machine c.size.ensures.size in
    bytes_inside image c.args.line c.piece_bytes.result c.machine-long.ensures.limits.machine_allowed c.requires
    (high_bytes image c.args.line (c.size.result / c.machine-long.result.line_length) (Some c.in-Some.apart) c.piece_bytes.result lines c.if-line-lines.false
    (apart_is image c.machine.result (Some c.in-Some.apart) c.machine.ensures.machine c.in-Some.is) c.piece_bytes.ensures)

pub returns-in-Some-clause-all : goal.returns-in-Some-clause-all
returns-in-Some-clause-all c =
    let image = c.args.image.now in
    let lines = lines_are image c.machine-long.result c.size.result c.machine-long.ensures.machine c.size.ensures.size in
    all_among image c.args.line c.piece_bytes.result c.machine-long.ensures.limits.machine_allowed
    (high_bytes image c.args.line (c.size.result / c.machine-long.result.line_length) (Some c.in-Some.apart) c.piece_bytes.result lines c.if-line-lines.false
    (apart_is image c.machine.result (Some c.in-Some.apart) c.machine.ensures.machine c.in-Some.is) c.piece_bytes.ensures)

pub returns-in-None-clause-all : goal.returns-in-None-clause-all
returns-in-None-clause-all c =
    let image = c.args.image.now in
    let lines = lines_are image c.machine-long.result c.size.result c.machine-long.ensures.machine c.size.ensures.size in
    all_among image c.args.line _ c.machine-long.ensures.limits.machine_allowed
    (high_bytes image c.args.line (c.size.result / c.machine-long.result.line_length) None (record { first = 0; length = 0 }) lines c.if-line-lines.false
    (apart_is image c.machine.result None c.machine.ensures.machine c.in-None.is) refl)
