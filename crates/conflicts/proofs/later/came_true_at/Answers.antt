use Rattle.std.proofs.Common.{◌≡◌, ◌≤◌, Some, sym, subst, ◌∙◌}
use Rattle.conflicts.specs.declared.ahead.Stores.{Stores}
use Rattle.conflicts.proofs.later.came_true_at.Goals as goal

pub look-requires-clause-known : goal.look-requires-clause-known
look-requires-clause-known c = rw c.image.ensures c.requires.known

pub returns-in_err-look-clause-known : goal.returns-in_err-look-clause-known
returns-in_err-look-clause-known c = rw c.image.ensures at c.look.ensures.known

pub returns-in-Some-clause-known : goal.returns-in-Some-clause-known
returns-in-Some-clause-known c = rw c.image.ensures at c.look.ensures.known

pub returns-in-Some-clause-came : goal.returns-in-Some-clause-came
returns-in-Some-clause-came c =
    let entries = c.args.scene.now.entries.now in
    let found = c.in_ok-look.ensures.found in
    let is = sym c.in-Some.ensures.value in
    let both : Some found.stores ≡ Some c.in-Some.stores.now = sym found.is ∙ is in
    let same : found.stores ≡ c.in-Some.stores.now = cc in
    let past : c.in-Some.stores.now.after ≤ c.args.cause = subst (λ (s : Stores). s.after ≤ c.args.cause) same found.from in
    let ahead = (rw c.image.ensures at c.in_ok-look.ensures.known) c.args.causer c.in-Some.stores.now is in
    c.sign_of.ensures.came entries c.args.causer ahead past
