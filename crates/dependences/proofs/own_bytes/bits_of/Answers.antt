use Rattle.std.proofs.Common.{◌≡◌, ◌+◌, ◌-◌, ◌*◌, ◌%◌, ◌≤◌, ◌^◌, ℕ, ap, ◌∙◌, arith}
use Rattle.std.proofs.Math.Nat.{mod-eq_of_lt, pow-le-pow_right}
use Rattle.dependences.proofs.own_bytes.bits_of.Goals as goal

-- a shift of 1 by so little loses no bit
shifted : (n : ℕ) → n ≤ 16 → 1 * 2 ^ n % 4294967296 ≡ 2 ^ n
shifted n few =
    let low : 2 ^ n ≤ 2 ^ 16 = pow-le-pow_right (omega arith) few in
    let one : 1 * 2 ^ n ≡ 2 ^ n = omega arith in
    ap (λ m. m % 4294967296) one ∙ mod-eq_of_lt (omega (arith, low))

pub overflow_sub-result : goal.overflow_sub-result
overflow_sub-result c =
    let first = shifted c.args.first (omega (arith, c.requires)) in
    let last = shifted (c.args.first + c.args.width) c.requires in
    let low : 2 ^ c.args.first ≤ 2 ^ (c.args.first + c.args.width) = pow-le-pow_right (omega arith) (omega arith) in
    omega (arith, first, last, low)

pub returns : goal.returns
returns c =
    let first = shifted c.args.first (omega (arith, c.requires)) in
    let last = shifted (c.args.first + c.args.width) c.requires in
    ap (λ n. n - 1 * 2 ^ c.args.first % 4294967296) last ∙ ap (λ n. 2 ^ (c.args.first + c.args.width) - n) first
