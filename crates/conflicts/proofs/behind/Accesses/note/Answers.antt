use Rattle.conflicts.proofs.Walking.{known_next, known_none}
use Rattle.conflicts.proofs.behind.Accesses.note.Goals as goal

pub returns-then-not-self-clause-known : goal.returns-then-not-self-clause-known
returns-then-not-self-clause-known c = known_none c.args.image.now.size c.args.entries.now c.args.core c.args.self.now c.requires.within c.if-not-self.true c.requires.known

pub returns-clause-known : goal.returns-clause-known
returns-clause-known c =
    known_next c.args.image.now.size c.args.entries.now c.args.core c.loaded_at-first.result.0 c.loaded_at-first.result.1 c.stored_at-low.result.0 c.stored_at-low.result.1 c.args.self.now
    c.note_reads.new.reads c.note_stores.new.stores c.requires.within c.if-not-self.false c.requires.known c.loaded_at-first.ensures.only c.loaded_at-first.ensures.each
    c.stored_at-low.ensures.only c.stored_at-low.ensures.each c.in_ok-note_reads.ensures c.in_ok-note_stores.ensures
