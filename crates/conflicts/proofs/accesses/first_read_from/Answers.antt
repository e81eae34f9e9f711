use Rattle.std.proofs.Common.{◌≤◌, ℕ, Bool, sym, ◌∙◌, arith}
use Rattle.conflicts.specs.Attempts.{reads_outside}
use Rattle.spec_history.proofs.Searches.Tests.{first_at, first_none}
use Rattle.conflicts.proofs.Reading.{unread_until}
use Rattle.conflicts.proofs.accesses.first_read_from.Goals as goal

pub loop-place-init : goal.loop-place-init
loop-place-init c k early = unread_until c.args.entries.now c.args.core c.args.before c.args.start c.args.addr k c.requires early

pub returns-then-reads_outside : goal.returns-then-reads_outside
returns-then-reads_outside c =
    let test : ℕ → Bool = reads_outside c.args.entries.now c.args.core c.args.before c.args.addr in
    sym (first_at c.args.before test c.loop-place.place c.loop-place-test.true (sym (c.reads_outside.ensures.reads c.args.before c.requires) ∙ c.if-reads_outside.true) c.loop-place.invariant)

pub returns : goal.returns
returns c =
    let test : ℕ → Bool = reads_outside c.args.entries.now c.args.core c.args.before c.args.addr in
    let all : c.args.before ≤ c.loop-place.place = c.loop-place-test.false in
    sym (first_none c.args.before test (λ k below. c.loop-place.invariant k (omega (arith, below, all))))
