use Rattle.std.proofs.Common.{◌≡◌, ◌+◌, ◌-◌, ◌/◌, ◌≤◌, ℕ, min, nat_lt, Bool, true, false, Option, Some, None, refl, ap, ◌∙◌, arith}
use Rattle.std.proofs.lemmas.Bool.Decides.{nat_tests}
use Rattle.rv32_image.specs.declared.apart.Apart.{Apart}
use Rattle.rv32_image.specs.declared.machine.Machine.{Machine}
use Rattle.rv32_image.specs.Machine.{IsMachineFor}
use Rattle.rv32_image.specs.Places.{AllowsApart, FitsApart, lies_apart, place, place_by, place_with}
use Rattle.even_speed.proofs.grain.line_of.Goals as goal

-- what is past memory follows the place of its end
after : (apart : Apart) (n size a : ℕ) → FitsApart size n apart → size ≤ a → place_with apart n size size + (a - size) ≡ place_with apart n size a
after apart n size a fits le =
    let out : (b : ℕ) → size ≤ b → lies_apart apart b ≡ false = λ b past. grind (arith, nat_tests, fits.within) in
    let end : nat_lt size size ≡ false = grind (arith, nat_tests) in
    let past : nat_lt a size ≡ false = grind (arith, nat_tests) in
    rw (out size (omega arith), out a le, end, past) (omega (arith, le))

after_by : (o : Option Apart) (n size a : ℕ) → AllowsApart size n o → size ≤ a → place_by o n size size + (a - size) ≡ place_by o n size a
after_by None n size a fits le = omega (arith, le)
after_by (Some apart) n size a fits le = after apart n size a (fits apart refl) le

at_end : (machine : Machine) (size a : ℕ) → IsMachineFor size machine → size ≤ a → place machine size size + (a - size) ≡ place machine size a
unfolding place
at_end machine size a fits le = after_by machine.apart machine.line_length size a fits.apart le

by_end : (machine : Machine) (size a inside : ℕ) → IsMachineFor size machine → inside ≡ min a size → (b : Bool) → nat_lt a size ≡ b → place machine size inside + (a - inside) ≡ place machine size a
by_end machine size a inside fits is true low =
    let same : inside ≡ a = grind (arith, nat_tests) in
    ap (λ n. place machine size n + (a - n)) same ∙ omega arith
by_end machine size a inside fits is false past =
    let same : inside ≡ size = grind (arith, nat_tests) in
    ap (λ n. place machine size n + (a - n)) same ∙ at_end machine size a fits (grind (arith, nat_tests))

pub returns : goal.returns
returns c =
    let whole = by_end c.args.machine c.args.size c.args.addr c.min-inside.result c.requires.fits c.min-inside.ensures (nat_lt c.args.addr c.args.size) refl in
    let sum : c.from.result + c.from-2.result ≡ place c.args.machine c.args.size c.args.addr =
    ap (λ n. n + c.from-2.result) (c.from.ensures ∙ c.place.ensures) ∙ (ap (λ n. place c.args.machine c.args.size c.min-inside.result + n) c.from-2.ensures ∙ whole) in
    ap (λ n. n / c.from-3.result) sum ∙ ap (λ n. place c.args.machine c.args.size c.args.addr / n) c.from-3.ensures
