use Rattle.std.proofs.Common.{◌≡◌, false, nat_le, refl, arith}
use Rattle.std.proofs.lemmas.Bool.Decides.{nat_tests}
use Rattle.replay_command.proofs.survey.lesser.Goals as goal

pub returns-in_default : goal.returns-in_default
returns-in_default c =
    let more : nat_le c.in-Some.old.restarts c.args.found.restarts ≡ false = grind (arith, nat_tests) in
    rw (c.in-Some.is, more) refl
