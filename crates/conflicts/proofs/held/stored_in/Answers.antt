use Rattle.std.proofs.Common.{◌&&◌, ℕ, Bool, Option, sym, ap}
use Rattle.conflicts.specs.Attempts.{attempt_does, core_does, is_after}
use Rattle.conflicts.specs.Blame.{stores_in}
use Rattle.spec_history.proofs.Searches.Tests.{first_none}
use Rattle.conflicts.proofs.held.stored_in.Goals as goal

pub returns-in-None : goal.returns-in-None
returns-in-None c =
    let test : ℕ → Bool = attempt_does c.args.entries.now c.args.core c.args.before (stores_in c.args.image.now c.args.line) in
    let does : ℕ → Bool = λ k. core_does c.args.entries.now c.args.core k (stores_in c.args.image.now c.args.line) in
    sym (first_none c.args.before test (λ k below. ap (λ (o : Option ℕ). is_after o k && does k) (sym c.in-None.ensures)))
