use Rattle.std.proofs.Common.{◌∙◌, sym, ap, inl, inr, arith}
use Rattle.std.proofs.lemmas.Bool.{cases_eq}
use Rattle.conflicts.specs.Attempts.{core_does, is_begin}
use Rattle.conflicts.proofs.ahead.next_begin.Goals as goal

pub loop-place-init : goal.loop-place-init
loop-place-init c k from below = absurd (omega (arith, from, below))

pub returns-then-begins : goal.returns-then-begins
returns-then-begins c = record {
  most = omega (arith, c.loop-place-test.true);
  passes = λ _. (omega arith, sym c.begins.ensures ∙ c.if-begins.true);
  first = c.loop-place.invariant;
}

pub loop-place-preserved : goal.loop-place-preserved
loop-place-preserved c k from below = elim (cases_eq k c.loop-place.place) [
  | inl e ↦ ap (λ j. core_does c.args.entries.now c.args.core j is_begin) e ∙ (sym c.begins.ensures ∙ c.if-begins.false)
  | inr other ↦ c.loop-place.invariant k from (omega (arith, below, other))
]

pub returns : goal.returns
returns c = record {
  most = omega arith;
  passes = λ below. absurd (omega (arith, below));
  first = λ k from below. c.loop-place.invariant k from (omega (arith, below, c.loop-place-test.false));
}
