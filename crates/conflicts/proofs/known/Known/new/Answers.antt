use Rattle.conflicts.proofs.known.Known.new.Goals as goal

pub returns : goal.returns
returns c size entries = record { ahead_is = c.new.ensures size entries; behind_is = c.new-2.ensures size entries }
