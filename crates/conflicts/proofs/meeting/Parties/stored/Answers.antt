use Rattle.std.proofs.Common.{◌≡◌, ℕ, ◌<◌, ◌≤◌, ◌+◌, ◌-◌, ◌*◌, ◌^◌, ◌%◌, Some, true, nat_le, nat_lt, sym, ap, arith, lt-ltb, le-leb}
use Rattle.std.proofs.Math.Pow.{pow_mono}
use Rattle.std.proofs.Math.Nat.{div-eq_of_lt}
use Rattle.memory_bytes.specs.Maps.{stored}
use Rattle.memory_bytes.specs.Bytes.{byte_of}
use Rattle.conflicts.proofs.meeting.Parties.stored.Goals as goal

no_byte : (value place : ℕ) → value < 2 ^ 32 → 4 ≤ place → byte_of value place ≡ 0
no_byte value place small past =
    let powers : 2 ^ 32 ≤ 2 ^ (8 * place) = pow_mono {i = 32} {j = 8 * place} (omega arith) in
    let below : value < 2 ^ (8 * place) = omega (arith, small, powers) in
    ap (λ n. n % 256) (div-eq_of_lt below)

past : (addr width value at : ℕ) → value < 2 ^ 32 → addr ≤ at → at - addr < width → 4 ≤ at - addr → Some 0 ≡ stored addr width value at
unfolding stored
past addr width value at small after within far =
    let first : nat_le addr at ≡ true = le-leb addr at after in
    let last : nat_lt at (addr + width) ≡ true = lt-ltb at (addr + width) (omega arith) in
    rw (first, last) (ap Some (sym (no_byte value (at - addr) small far)))

pub returns-else-place-lt4 : goal.returns-else-place-lt4
returns-else-place-lt4 c =
    past c.args.addr c.args.width c.args.value c.args.at (omega (arith, c.ranges.value.fits)) (omega (arith, c.if-at-addr.false)) (omega (arith, c.if-at-addr-2.false)) (omega (arith, c.if-place-lt4.false))
