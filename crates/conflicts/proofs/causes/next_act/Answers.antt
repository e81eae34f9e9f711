use Rattle.std.proofs.Common.{◌≡◌, ◌<◌, ◌&&◌, ◌∙◌, ℕ, true, length, nat_lt, not, sym, ap, arith, lt-ltb}
use Rattle.std.proofs.lemmas.Bool.{and_right}
use Rattle.spec_history.proofs.CodedCores.CoreStates.{also_at}
use Rattle.spec_history.specs.Conflict.{entry_is, is_notice}
use Rattle.spec_history.proofs.Searches.Tests.{first_at, first_none}
use Rattle.conflicts.proofs.causes.next_act.Goals as goal

pub returns-then-is_act-clause-next : goal.returns-then-is_act-clause-next
returns-then-is_act-clause-next c =
    let entries = c.args.entries.now in
    let acts = λ (k : ℕ). entry_is entries k (λ entry. not (is_notice entry.what)) in
    let test = λ (k : ℕ). nat_lt c.args.place k && acts k in
    let below : c.loop-j.j < length entries = omega (arith, c.loop-j-test.true) in
    let after : c.args.place < c.loop-j.j = omega (arith, c.loop-j.auto.j) in
    let passes : test c.loop-j.j ≡ true = ap (λ b. b && acts c.loop-j.j) (lt-ltb c.args.place c.loop-j.j after) ∙ sym c.if-is_act.ensures in
    sym (first_at (length entries) test c.loop-j.j below passes c.loop-j.invariant)

pub loop-j-preserved : goal.loop-j-preserved
loop-j-preserved c =
    let acts = λ (k : ℕ). entry_is c.args.entries.now k (λ entry. not (is_notice entry.what)) in
    let fails = and_right (nat_lt c.args.place c.loop-j.j) _ (sym c.if-is_act.ensures) in
    also_at (λ k. nat_lt c.args.place k && acts k) c.loop-j.j c.loop-j.invariant fails

pub returns-clause-next : goal.returns-clause-next
returns-clause-next c =
    sym (first_none (length c.args.entries.now) (λ k. nat_lt c.args.place k && entry_is c.args.entries.now k (λ entry. not (is_notice entry.what)))
    (λ k below. c.loop-j.invariant k (omega (arith, below, c.loop-j-test.false))))
