use Rattle.std.proofs.Common.{false, [], ℕ, IfSome, IfNone, Option, inl, inr, sym, ap, subst, ◌∙◌, arith}
use Rattle.std.proofs.lemmas.Bool.{cases_eq}
use Rattle.cache_lines.specs.declared.line.Line.{Line}
use Rattle.cache_lines.specs.Changes.{IsFound, IsAbsent}
use Rattle.cache_lines.specs.Lines.{line_in, is_copy_of}
use Rattle.cache_lines.proofs.LineLaws.{line_in-set, way_at-own, way_at-none}
use Rattle.spec_states.specs.declared.line.LineState.TheVariants.{I}
use Rattle.cache_lines.proofs.CopyLaws.{in_place, way-found, way-absent}
use Rattle.cache_lines.proofs.cache.Cache.find.Goals as goal

pub returns-then-is_copy_of-clause-value : goal.returns-then-is_copy_of-clause-value
returns-then-is_copy_of-clause-value c =
    let within = c.loop-way-test.true in
    let count = c.set-set.ensures.ways in
    let line = line_in-set c.args.self.now c.set-set.result.now c.args.addr c.loop-way.way (record { addr = 0; state = I; marks = record { loaded = false; bytes = 0 }; cells = [] }) count c.set-set.ensures.lines within in
    sym (way_at-own c.args.self.now c.set-set.ensures.placed c.args.addr c.loop-way.way (omega (arith, within, count))
    (sym (c.if-is_copy_of.ensures ∙ ap (λ (line : Line). is_copy_of line c.args.addr) line)))

pub returns-then-is_copy_of-clause-found : goal.returns-then-is_copy_of-clause-found
returns-then-is_copy_of-clause-found c =
    subst (λ (o : Option ℕ). IfSome o (IsFound c.args.self.now c.args.addr)) (sym (returns-then-is_copy_of-clause-value c))
    (way-found c.args.self.now c.set-set.ensures.placed c.args.addr)

pub returns-then-is_copy_of-clause-in_place : goal.returns-then-is_copy_of-clause-in_place
returns-then-is_copy_of-clause-in_place c = in_place c.args.self.now c.set-set.ensures.placed c.args.addr

pub loop-way-preserved : goal.loop-way-preserved
loop-way-preserved c v below =
    let within = c.loop-way-test.true in
    let line = line_in-set c.args.self.now c.set-set.result.now c.args.addr c.loop-way.way (record { addr = 0; state = I; marks = record { loaded = false; bytes = 0 }; cells = [] }) c.set-set.ensures.ways c.set-set.ensures.lines within in
    elim (cases_eq v c.loop-way.way) [
      | inl e ↦ ap (λ v. is_copy_of (line_in c.args.self.now c.args.addr v) c.args.addr) e
          ∙ sym (c.if-is_copy_of.ensures ∙ ap (λ (line : Line). is_copy_of line c.args.addr) line)
      | inr other ↦ c.loop-way.invariant v (omega (arith, below, other))
    ]

pub returns-clause-value : goal.returns-clause-value
returns-clause-value c =
    let past = c.loop-way-test.false in
    let count = c.set-set.ensures.ways in
    sym (way_at-none c.args.self.now c.args.addr (λ v lt. c.loop-way.invariant v (omega (arith, lt, past, count))))

pub returns-clause-absent : goal.returns-clause-absent
returns-clause-absent c =
    subst (λ (o : Option ℕ). IfNone o (IsAbsent c.args.self.now c.args.addr)) (sym (returns-clause-value c)) (way-absent c.args.self.now c.args.addr)

pub returns-clause-in_place : goal.returns-clause-in_place
returns-clause-in_place c = in_place c.args.self.now c.set-set.ensures.placed c.args.addr
