use Rattle.std.proofs.Common.{◌&&◌, ◌∙◌, ℕ, Bool, Option, sym, ap, arith, le-ltb}
use Rattle.spec_history.proofs.CodedCores.CoreStates.{also_at}
use Rattle.conflicts.specs.Attempts.{attempt_does, core_does, is_after}
use Rattle.conflicts.specs.Blame.{stores_in}
use Rattle.spec_history.proofs.Searches.Tests.{first_at, first_none}
use Rattle.conflicts.proofs.held.first_stored_in.Goals as goal

pub loop-place-init : goal.loop-place-init
loop-place-init c k before =
    let does = core_does c.args.entries.now c.args.core k (stores_in c.args.image.now c.args.line) in
    ap (λ (o : Option ℕ). is_after o k && does) c.requires ∙ ap (λ b. b && does) (le-ltb c.args.start k (omega (arith, before)))

pub returns-then-is_store_in : goal.returns-then-is_store_in
returns-then-is_store_in c =
    let test : ℕ → Bool = attempt_does c.args.entries.now c.args.core c.args.before (stores_in c.args.image.now c.args.line) in
    sym (first_at c.args.before test c.loop-place.place c.loop-place-test.true (sym (c.is_store_in.ensures c.args.before c.requires) ∙ c.if-is_store_in.true) c.loop-place.invariant)

pub loop-place-preserved : goal.loop-place-preserved
loop-place-preserved c =
    let test : ℕ → Bool = attempt_does c.args.entries.now c.args.core c.args.before (stores_in c.args.image.now c.args.line) in
    also_at test c.loop-place.place c.loop-place.invariant (sym (c.is_store_in.ensures c.args.before c.requires) ∙ c.if-is_store_in.false)

pub returns : goal.returns
returns c =
    let test : ℕ → Bool = attempt_does c.args.entries.now c.args.core c.args.before (stores_in c.args.image.now c.args.line) in
    sym (first_none c.args.before test (λ k below. c.loop-place.invariant k (omega (arith, below, c.loop-place-test.false))))
