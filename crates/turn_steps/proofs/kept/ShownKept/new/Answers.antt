use Rattle.turn_steps.proofs.Keeping.{shows_nothing, without_entries}
use Rattle.turn_steps.proofs.kept.ShownKept.new.Goals as goal

pub returns : goal.returns
returns c v core clear = shows_nothing v core c.new.result.entries (without_entries c.new.result.entries c.new.ensures.empty) clear
