use Rattle.even_speed.proofs.owns.keep.Goals as goal

pub returns-in-Store : goal.returns-in-Store
returns-in-Store c = rw c.in-Store.is c.store.ensures
