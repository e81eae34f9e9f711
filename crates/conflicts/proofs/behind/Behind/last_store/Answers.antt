use Rattle.std.proofs.Common.{sym, ◌∙◌}
use Rattle.conflicts.proofs.Walking.{at_hand}
use Rattle.conflicts.proofs.behind.Behind.last_store.Goals as goal

pub returns-then-accesses-before : goal.returns-then-accesses-before
returns-then-accesses-before c size known below =
    let accesses = c.in-Some.accesses.now in
    c.copied.ensures ∙ (c.get-then-accesses-before.ensures.value
    ∙ (at_hand size c.args.entries.now c.args.core c.args.before c.args.addr c.args.self.now accesses known (sym c.in-Some.ensures.value) c.if-accesses-before.true below).1)
