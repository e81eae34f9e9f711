use Rattle.std.proofs.Common.{◌≡◌, ◌<◌, ◌≤◌, ℕ, true, nat_le, Option, Some, None, IfSome, IfNone, ap, arith}
use Rattle.std.proofs.lemmas.Bool.Decides.{nat_tests}
use Rattle.replay_command.proofs.costs.cost_in.Goals as goal

made : (cost : Option ℕ) (n : ℕ) → IfSome cost (λ k. k ≡ n) → IfNone cost (1000000 < n) → n ≤ 1000000 → cost ≡ Some n
made (Some k) n is more few = ap Some is
made None n is more few = absurd (omega (arith, more))

pub returns-in-Ok : goal.returns-in-Ok
returns-in-Ok c =
    let few : nat_le c.in-Ok.number 1000000 ≡ true = grind (arith, nat_tests) in
    rw (← c.in-Ok.ensures, few) (made c.new.result c.in-Ok.number c.new.ensures.some c.new.ensures.none c.if-number-le1000000.true)
