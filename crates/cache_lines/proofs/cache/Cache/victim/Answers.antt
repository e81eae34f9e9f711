use Rattle.std.proofs.Common.{◌≡◌, ◌<◌, ◌+◌, ℕ, true, false, not, IfSome, IfNone, Option, sym, ap, subst, ◌∙◌, arith}
use Rattle.std.specs.Bool.{then_some}
use Rattle.std.specs.Option.{option_or}
use Rattle.spec_states.specs.States.{is_valid, is_speculative}
use Rattle.cache_lines.specs.declared.line.Line.{Line}
use Rattle.cache_lines.specs.Changes.{is_unmarked}
use Rattle.cache_lines.specs.Lines.{line_in}
use Rattle.cache_lines.proofs.LineLaws.{line_in-set}
use Rattle.cache_lines.proofs.Victims.{IsPassed, passed_more, victim-invalid, victim-valid, victim-unmarked, victim-full}
use Rattle.cache_lines.proofs.cache.Cache.victim.Goals as goal

pub returns-then-not-is_valid-clause-value : goal.returns-then-not-is_valid-clause-value
returns-then-not-is_valid-clause-value c =
    let within = c.loop-way-test.true in
    let count = c.set-set.ensures.ways in
    let line = line_in-set c.args.self.now c.set-set.result.now c.args.addr c.loop-way.way _ count c.set-set.ensures.lines within in
    sym (victim-invalid c.args.self.now c.args.addr c.loop-way.way c.loop-way.unmarked c.loop-way.invariant (omega (arith, within, count))
    (sym (c.if-not-is_valid.ensures ∙ ap (λ (line : Line). is_valid line.state) line)))

pub loop-way-preserved : goal.loop-way-preserved
loop-way-preserved c =
    let line = line_in-set c.args.self.now c.set-set.result.now c.args.addr c.loop-way.way _ c.set-set.ensures.ways c.set-set.ensures.lines c.loop-way-test.true in
    let free : c.or-unmarked.result
    ≡ option_or c.loop-way.unmarked (then_some (is_unmarked (line_in c.args.self.now c.args.addr c.loop-way.way)) c.loop-way.way) =
    c.or-unmarked.ensures
    ∙ ap (λ o. option_or c.loop-way.unmarked o)
    (c.then_some-free.ensures
    ∙ ap (λ b. then_some (not b) c.loop-way.way) (c.is_speculative.ensures ∙ ap (λ (line : Line). is_speculative line.state) line)) in
    subst (λ o. IsPassed (line_in c.args.self.now c.args.addr) (c.loop-way.way + 1) o) (sym free)
    (passed_more (line_in c.args.self.now c.args.addr) c.loop-way.way c.loop-way.unmarked c.loop-way.invariant
    (ap not (sym (c.if-not-is_valid.ensures ∙ ap (λ (line : Line). is_valid line.state) line))))

pub returns-clause-value : goal.returns-clause-value
returns-clause-value c =
    let past = c.loop-way-test.false in
    let within = c.loop-way.auto.way-end in
    let count = c.set-set.ensures.ways in
    sym (victim-valid c.args.self.now c.args.addr c.loop-way.way c.loop-way.unmarked c.loop-way.invariant (omega (arith, past, within, count)))

pub returns-clause-unmarked : goal.returns-clause-unmarked
returns-clause-unmarked c =
    subst (λ (o : Option ℕ). IfSome o (λ way. (way < c.args.self.now.geometry.ways) × (is_speculative (line_in c.args.self.now c.args.addr way).state ≡ false)))
    (sym (returns-clause-value c)) (victim-unmarked c.args.self.now c.args.addr)

pub returns-clause-full : goal.returns-clause-full
returns-clause-full c =
    subst (λ (o : Option ℕ). IfNone o ((way : ℕ) → way < c.args.self.now.geometry.ways → is_speculative (line_in c.args.self.now c.args.addr way).state ≡ true))
    (sym (returns-clause-value c)) (victim-full c.args.self.now c.args.addr)
