use Rattle.std.proofs.Common.{◌-◌, ◌<◌, ◌≤◌, ℕ, Bool, sym, ◌∙◌, arith}
use Rattle.conflicts.specs.Attempts.{attempt_place, core_does, stores_byte}
use Rattle.conflicts.proofs.Backwards.{from_start, last_after, no_start, none_after, passed_more}
use Rattle.conflicts.proofs.accesses.last_store.Goals as goal

pub returns-in_err-start : goal.returns-in_err-start
returns-in_err-start c =
    c.from_residual.ensures
    ∙ no_start c.args.before (attempt_place c.args.entries.now c.args.core c.args.before) (λ k. core_does c.args.entries.now c.args.core k (stores_byte c.args.addr)) c.in_err-start.ensures

pub loop-i-init : goal.loop-i-init
loop-i-init c k from below = absurd (omega (arith, from, below))

pub returns-then-place-start : goal.returns-then-place-start
returns-then-place-start c =
    let does : ℕ → Bool = λ k. core_does c.args.entries.now c.args.core k (stores_byte c.args.addr) in
    let past : c.args.before - 1 - c.loop-i.i ≤ c.in_ok-start.start = c.if-place-start.true in
    sym (none_after c.args.before c.in_ok-start.start does (λ k after below. c.loop-i.invariant k (omega (arith, after, past)) below))
    ∙ from_start c.args.before c.in_ok-start.start (attempt_place c.args.entries.now c.args.core c.args.before) does c.in_ok-start.ensures

pub returns-then-stores : goal.returns-then-stores
returns-then-stores c =
    let does : ℕ → Bool = λ k. core_does c.args.entries.now c.args.core k (stores_byte c.args.addr) in
    let place = c.args.before - 1 - c.loop-i.i in
    let within : c.loop-i.i < c.args.before = c.loop-i-test.true in
    sym (last_after c.args.before c.in_ok-start.start place does c.if-place-start.false (omega (arith, within)) (sym c.stores.ensures ∙ c.if-stores.true)
    (λ k after below. c.loop-i.invariant k (omega (arith, after, within)) below))
    ∙ from_start c.args.before c.in_ok-start.start (attempt_place c.args.entries.now c.args.core c.args.before) does c.in_ok-start.ensures

pub loop-i-preserved : goal.loop-i-preserved
loop-i-preserved c =
    let within : c.loop-i.i < c.args.before = c.loop-i-test.true in
    passed_more (λ k. core_does c.args.entries.now c.args.core k (stores_byte c.args.addr)) c.args.before c.loop-i.i (c.args.before - 1 - c.loop-i.i) within (omega (arith, within))
    c.loop-i.invariant (sym c.stores.ensures ∙ c.if-stores.false)

pub returns : goal.returns
returns c =
    let does : ℕ → Bool = λ k. core_does c.args.entries.now c.args.core k (stores_byte c.args.addr) in
    let all : c.args.before ≤ c.loop-i.i = c.loop-i-test.false in
    sym (none_after c.args.before c.in_ok-start.start does (λ k after below. c.loop-i.invariant k (omega (arith, all)) below))
    ∙ from_start c.args.before c.in_ok-start.start (attempt_place c.args.entries.now c.args.core c.args.before) does c.in_ok-start.ensures
