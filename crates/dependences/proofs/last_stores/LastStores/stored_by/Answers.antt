use Rattle.std.proofs.Common.{sym, ◌∙◌}
use Rattle.dependences.proofs.WholeWords.{stored_here}
use Rattle.dependences.proofs.last_stores.LastStores.stored_by.Goals as goal

pub returns-in-Untouched : goal.returns-in-Untouched
returns-in-Untouched c =
    let here = stored_here c.self.inside.words c.self.inside.bytes c.args.self.now c.args.byte _ c.self.invariant c.self.view_is c.requires (sym c.in-Untouched.is ∙ c.at.ensures) in
    record { writer = here.0; step = here.1; pc = here.2 }

pub returns-in-Whole : goal.returns-in-Whole
returns-in-Whole c =
    let here = stored_here c.self.inside.words c.self.inside.bytes c.args.self.now c.args.byte _ c.self.invariant c.self.view_is c.requires (sym c.in-Whole.is ∙ c.at.ensures) in
    record { writer = here.0; step = here.1; pc = here.2 }

pub returns-in-Bytes : goal.returns-in-Bytes
returns-in-Bytes c =
    let here = stored_here c.self.inside.words c.self.inside.bytes c.args.self.now c.args.byte _ c.self.invariant c.self.view_is c.requires (sym c.in-Bytes.is ∙ c.at.ensures) in
    record { writer = c.at-in-Bytes.ensures.writer ∙ here.0; step = c.at-in-Bytes.ensures.step ∙ here.1; pc = c.at-in-Bytes.ensures.pc ∙ here.2 }
