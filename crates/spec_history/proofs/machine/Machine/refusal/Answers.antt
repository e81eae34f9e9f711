use Rattle.std.proofs.Common.{sym, ◌∙◌}
use Rattle.spec_history.specs.Machine.{state_of}
use Rattle.spec_history.proofs.OneEntry.Legal.{next_in_memory}
use Rattle.spec_history.proofs.machine.Machine.refusal.Goals as goal

pub is_value-requires-clause-within : goal.is_value-requires-clause-within
is_value-requires-clause-within c =
    next_in_memory c.args.self.now.image (state_of c.args.self.now) c.args.entry.by c.args.entry.what (sym c.is_next.ensures ∙ c.if-not-is_next.false)

pub misses_a_hurt-requires-clause-within : goal.misses_a_hurt-requires-clause-within
misses_a_hurt-requires-clause-within c =
    next_in_memory c.args.self.now.image (state_of c.args.self.now) c.args.entry.by c.args.entry.what (sym c.is_next.ensures ∙ c.if-not-is_next.false)

pub returns-clause-within : goal.returns-clause-within
returns-clause-within c is =
    next_in_memory c.args.self.now.image (state_of c.args.self.now) c.args.entry.by c.args.entry.what (sym c.is_next.ensures ∙ c.if-not-is_next.false)
