use Rattle.std.proofs.Common.{sym}
use Rattle.spec_history.proofs.machine.Machine.is_at_an_exit.Goals as goal

pub exits-requires : goal.exits-requires
exits-requires c = c.requires.cores.each c.args.by c.in-Some.core.now (sym c.in-Some.ensures)
