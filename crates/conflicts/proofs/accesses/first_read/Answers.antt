use Rattle.std.proofs.Common.{sym}
use Rattle.conflicts.proofs.Reading.{never_read}
use Rattle.conflicts.proofs.accesses.first_read.Goals as goal

pub returns-in-None : goal.returns-in-None
returns-in-None c = sym (never_read c.args.entries.now c.args.core c.args.before c.args.addr (sym c.in-None.ensures))
