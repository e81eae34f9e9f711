use Rattle.std.proofs.Common.{arith}
use Rattle.spec_history.proofs.Searches.Lines.{number_counted}
use Rattle.conflicts.proofs.addresses.line_bytes.Goals as goal

pub returns-else-line-lines_of-clause-all : goal.returns-else-line-lines_of-clause-all
returns-else-line-lines_of-clause-all c a below at =
    let limits = c.lines_of.ensures.limits in
    absurd (omega (arith, number_counted c.args.image.now a limits.machine_allowed below, at, c.if-line-lines_of.false, c.lines_of.ensures.lines))
