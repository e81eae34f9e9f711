use Rattle.std.proofs.Common.{ap, arith, refl}
use Rattle.even_speed.specs.declared.clock.Clock.{Clock}
use Rattle.even_speed.specs.Account.{total}
use Rattle.even_speed.proofs.Sounding.{begun_few}
use Rattle.even_speed.proofs.clock.Clock.answered.Goals as goal

pub paid-requires : goal.paid-requires
paid-requires c =
    let few = begun_few c.args.at c.args.restarted c.args.self c.args.self.runs c.args.restarted refl refl c.requires.turn.before in
    omega (arith, few, ap (λ (k : Clock). total k.spent) c.begun.ensures, c.requires.turn.soon, c.requires.spent)
