use Rattle.dependences.proofs.pairs.put.Goals as goal

pub returns-in-Ok : goal.returns-in-Ok
returns-in-Ok c store load = c.in-Ok.ensures.updates.0 (store, load)
