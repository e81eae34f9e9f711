use Rattle.std.proofs.Common.{◌&&◌, ◌∙◌, ℕ, Bool, nat_lt, length, sym, ap, arith, le-ltb}
use Rattle.spec_history.proofs.CodedCores.CoreStates.{also_at}
use Rattle.spec_history.specs.Conflict.{entry_is}
use Rattle.conflicts.specs.Fates.{shows}
use Rattle.spec_history.proofs.Searches.Tests.{first_at, first_none}
use Rattle.conflicts.proofs.fates.first_after.Goals as goal

pub loop-j-init : goal.loop-j-init
loop-j-init c k before = ap (λ b. b && entry_is c.args.entries.now k (shows c.args.sign c.args.runner)) (le-ltb c.args.place k (omega (arith, before)))

pub returns-then-is_shown_at : goal.returns-then-is_shown_at
returns-then-is_shown_at c =
    let test : ℕ → Bool = λ k. nat_lt c.args.place k && entry_is c.args.entries.now k (shows c.args.sign c.args.runner) in
    sym (first_at (length c.args.entries.now) test c.loop-j.j (omega (arith, c.loop-j-test.true)) (sym c.is_shown_at.ensures ∙ c.if-is_shown_at.true) c.loop-j.invariant)

pub loop-j-preserved : goal.loop-j-preserved
loop-j-preserved c =
    let test : ℕ → Bool = λ k. nat_lt c.args.place k && entry_is c.args.entries.now k (shows c.args.sign c.args.runner) in
    also_at test c.loop-j.j c.loop-j.invariant (sym c.is_shown_at.ensures ∙ c.if-is_shown_at.false)

pub returns : goal.returns
returns c =
    let test : ℕ → Bool = λ k. nat_lt c.args.place k && entry_is c.args.entries.now k (shows c.args.sign c.args.runner) in
    sym (first_none (length c.args.entries.now) test (λ k below. c.loop-j.invariant k (omega (arith, below, c.loop-j-test.false))))
