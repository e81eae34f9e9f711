use Rattle.homefree.proofs.Cases.Moving.{turns_store}
use Rattle.homefree.proofs.book.Book.take_turn.Goals as goal

pub returns-clause-turned : goal.returns-clause-turned
returns-clause-turned g c = rw (← c.self.view_is) (rw (← c.deref_mut-inside.ensures.value) (turns_store c.turn_within.ensures.turned c.turn_within.ensures.moves))
