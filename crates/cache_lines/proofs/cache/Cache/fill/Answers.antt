use Rattle.cache_lines.proofs.LineLaws.{line_in-own}
use Rattle.cache_lines.proofs.CopyLaws.{copies-filled}
use Rattle.cache_lines.proofs.Ways.{stand-filled}
use Rattle.cache_lines.proofs.cache.Cache.fill.Goals as goal

pub returns-clause-copies : goal.returns-clause-copies
returns-clause-copies c =
    rw c.put.ensures.exact
    (copies-filled c.args.self.now c.args.way c.args.line c.put.ensures.placed c.requires.in_ways c.put.ensures.may_stand)

pub returns-clause-ways : goal.returns-clause-ways
returns-clause-ways c =
    rw c.put.ensures.exact
    (stand-filled c.args.self.now c.args.way c.args.line c.put.ensures.placed c.requires.in_ways c.put.ensures.may_stand)

pub returns-clause-line : goal.returns-clause-line
returns-clause-line c =
    rw c.put.ensures.exact (line_in-own c.args.self.now c.args.line.addr c.args.way c.args.line c.put.ensures.placed c.requires.in_ways)
