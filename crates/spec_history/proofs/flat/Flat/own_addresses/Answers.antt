use Rattle.std.proofs.Common.{sym}
use Rattle.spec_history.proofs.flat.Flat.own_addresses.Goals as goal

pub returns-in-Some-clause-within : goal.returns-in-Some-clause-within
returns-in-Some-clause-within c place below =
    rw (← c.self.view_is) (c.own_addresses.ensures.within c.self.inside.machine.image place (c.self.invariant.fit.cores.each c.args.core c.in-Some.core.now (sym c.in-Some.ensures)) below)
