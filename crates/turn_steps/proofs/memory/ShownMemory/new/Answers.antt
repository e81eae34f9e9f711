use Rattle.std.proofs.Common.{ℕ, List, slice_index, arith, ap, ◌∙◌}
use Rattle.turn_steps.specs.Memory.{row_of, shown_row}
use Rattle.turn_steps.proofs.Shown.{next_row, shows_fresh}
use Rattle.turn_steps.proofs.memory.ShownMemory.new.Goals as goal

pub loop-row-preserved : goal.loop-row-preserved
loop-row-preserved c = record {
  long = grind (arith, c.loop-row.invariant.long);
  each = λ r less. ap (λ rows. shown_row rows r) c.in_ok-push.ensures.items ∙ next_row (row_of (λ a. slice_index c.args.image.now.bytes a)) c.loop-row.rows.items c.row_in.result c.loop-row.row
      c.loop-row.invariant.long c.loop-row.invariant.each
      (c.row_in.ensures ∙ ap (λ (l : List ℕ). row_of (λ a. slice_index l a) c.loop-row.row) c.bytes.ensures.bytes) r less;
}

pub invariant_of-result : goal.invariant_of-result
invariant_of-result c = omega (arith, c.loop-row.invariant.long, c.size-row-end.ensures.size, c.size-row-end.ensures.limits.size_most)

pub returns : goal.returns
returns c v cores fresh = shows_fresh c.args.image.now v cores c.loop-row.rows.items c.loop-row.row c.loop-row.invariant.long
    (omega (arith, c.size-row-end.ensures.size)) c.loop-row.invariant.each fresh
