use Rattle.std.proofs.Common.{◌∙◌}
use Rattle.violations.specs.Plain.{store_view}
use Rattle.turn_steps.proofs.Reading.{or_zero}
use Rattle.turn_steps.proofs.kept_row.own_or_zero.Goals as goal

pub returns : goal.returns
returns c = c.unwrap_or.ensures ∙ or_zero c.own_byte.result ((store_view c.args.store.now).own c.args.core c.args.addr) ((store_view c.args.store.now).sees c.args.core c.args.addr)
    c.own_byte.ensures.owned c.own_byte.ensures.byte
