use Rattle.conflicts.proofs.Signs.{came, never_came, still_next}
use Rattle.conflicts.proofs.later.sign_of.Goals as goal

pub returns-then-place-stores-clause-came : goal.returns-then-place-stores-clause-came
returns-then-place-stores-clause-came c entries core ahead past =
    came _ entries core c.args.after c.args.stores.now.end c.first_sign-place.result _ c.if-place-stores.true (still_next _ _ _ _ _ past c.requires ahead.end)
    (c.first_sign-place.ensures.next entries core ahead past)

pub returns-else-place-stores-clause-came : goal.returns-else-place-stores-clause-came
returns-else-place-stores-clause-came c entries core ahead past =
    never_came _ entries core c.args.after c.args.stores.now.end c.first_sign-place.result _ c.if-place-stores.false (still_next _ _ _ _ _ past c.requires ahead.end)
    (c.first_sign-place.ensures.next entries core ahead past)
