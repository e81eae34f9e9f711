use Rattle.std.proofs.Common.{◌≡◌, true, false, nat_lt, refl, arith}
use Rattle.std.proofs.lemmas.Bool.Decides.{nat_tests}
use Rattle.replay_command.specs.Turns.{core_in}
use Rattle.replay_command.proofs.turns.core_in.Goals as goal

pub returns-in-Ok : goal.returns-in-Ok
unfolding core_in
returns-in-Ok c =
    let there : nat_lt c.in-Ok.core c.args.cores ≡ true = grind (arith, nat_tests) in
    rw (← c.in-Ok.ensures, there) refl

pub returns-in_default : goal.returns-in_default
unfolding core_in
returns-in_default c =
    let none : nat_lt c.in-Ok.core c.args.cores ≡ false = grind (arith, nat_tests) in
    rw (← c.in-Ok.ensures, none) refl
