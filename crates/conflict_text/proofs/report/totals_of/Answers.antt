use Rattle.std.proofs.Common.{ap₂, ◌∙◌}
use Rattle.conflict_text.specs.Totals.{last_text}
use Rattle.conflict_text.proofs.report.totals_of.Goals as goal

pub returns : goal.returns
returns c rollbacks are = record {
  epochs_are = are.epochs_are;
  pairs_are = c.pairs_by_weight.ensures rollbacks are.pairs_are;
  by_line = c.args.sums.lines;
  by_line_are = record { each = are.lines_are; ascending = c.in_ok-lines.ensures.ascending };
  lines_are = c.in_ok-lines.ensures.ordered;
  kinds_are = are.kind_lines_are;
  loads_are = are.loads_are;
  stores_are = are.stores_are;
  instructions_are = are.instructions_are;
  last_are = c.in_ok-last.ensures
      ∙ ap₂ (λ kinds whole. last_text c.args.image.now c.args.homefree kinds whole c.args.ends.now.ended.items c.args.ends.now.running.items) are.kinds_are are.whole_is;
}
