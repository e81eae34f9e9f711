use Rattle.std.proofs.Common.{◌<◌, sym, subst, ◌∙◌}
use Rattle.spec_history.specs.Conflict.{line_count}
use Rattle.spec_history.proofs.Searches.Lines.{number_counted, line_is}
use Rattle.epoch_paths.proofs.lines.line_of.Goals as goal

pub returns-clause-line : goal.returns-clause-line
returns-clause-line c =
    c.line_at.ensures.line
    ∙ line_is c.args.image.now c.machine.result c.args.addr c.place.result c.place.ensures.place c.machine.ensures.machine

pub returns-clause-inside : goal.returns-clause-inside
returns-clause-inside c below =
    let image = c.args.image.now in
    subst (λ n. n < line_count image) (sym (c.line_at.ensures.line ∙ line_is image c.machine.result c.args.addr c.place.result c.place.ensures.place c.machine.ensures.machine))
    (number_counted image c.args.addr c.machine.ensures.limits.machine_allowed below)

pub line_at-requires : goal.line_at-requires
line_at-requires c = rw c.machine.ensures.machine c.machine.ensures.limits.machine_allowed.is.line_length
