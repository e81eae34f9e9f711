use Rattle.std.proofs.Common.{[], false, arith}
use Rattle.spec_states.specs.declared.line.LineState.TheVariants.{I}
use Rattle.cache_lines.proofs.CopyLaws.{copy_at-own}
use Rattle.cache_lines.proofs.LineLaws.{line_in-set}
use Rattle.cache_lines.proofs.cache.Cache.line.Goals as goal

pub returns-clause-value : goal.returns-clause-value
returns-clause-value c =
    let count = c.set.ensures.ways in
    let inside = c.requires in
    line_in-set c.args.self.now c.set.result.now c.args.addr c.args.way (record { addr = 0; state = I; marks = record { loaded = false; bytes = 0 }; cells = [] }) count c.set.ensures.lines (omega (arith, inside, count))

pub returns-clause-copy : goal.returns-clause-copy
returns-clause-copy c = copy_at-own c.args.self.now c.set.ensures.placed c.args.addr c.args.way c.requires
