use Rattle.std.proofs.Common.{◌<◌, sym, subst}
use Rattle.spec_history.specs.Conflict.{line_count}
use Rattle.spec_history.proofs.Searches.Lines.{number_counted, line_is}
use Rattle.conflicts.proofs.addresses.number_inside.Goals as goal

pub returns-clause-line : goal.returns-clause-line
returns-clause-line c = line_is c.args.image.now c.machine.result c.args.addr c.place.result c.place.ensures.place c.machine.ensures.machine

pub returns-clause-inside : goal.returns-clause-inside
returns-clause-inside c =
    let image = c.args.image.now in
    subst (λ n. n < line_count image) (sym (line_is image c.machine.result c.args.addr c.place.result c.place.ensures.place c.machine.ensures.machine))
    (number_counted image c.args.addr c.machine.ensures.limits.machine_allowed c.requires)
