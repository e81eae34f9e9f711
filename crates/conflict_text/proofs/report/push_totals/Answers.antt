use Rattle.std.proofs.Common.{◌≡◌, ◌++◌, ◌∙◌, ℕ, List, ap, refl, reverse}
use Rattle.std.specs.BTreeMap.{get}
use Rattle.std.specs.List.{flat_map}
use Rattle.std.specs.Ordering.{nat_cmp}
use Rattle.std.proofs.lemmas.Result.{on_ok_weaker}
use Rattle.conflict_findings.proofs.Counting.{line_counts}
use Rattle.conflict_findings.specs.declared.keys.Key.TheVariants.{Load}
use Rattle.conflict_findings.specs.declared.sum.Sum.{Sum}
use Rattle.conflict_findings.specs.Keys.{sum_at, sum_or}
use Rattle.conflict_findings.specs.Kinds.{counts_at}
use Rattle.conflict_text.specs.Report.{epoch_line, kind_lines, line_line, line_text, pair_line, pc_line, pc_text, total_line}
use Rattle.conflict_text.proofs.Summing.{ended, five_parts, same_lines}
use Rattle.conflict_text.proofs.report.push_totals.Goals as goal

pub returns : goal.returns
returns c =
    let image = c.args.image.now in
    let sums = c.args.sums in
    let before = c.push_instructions.new.text.items in
    let last = c.as_slice-2.result.now in
    let new = c.extend_from_slice.new.self.items in
    let line_told : ℕ × Sum → List ℕ = λ e. line_text image e (counts_at sums.kinds e.0) in
    let pc_told : ℕ × Sum → List ℕ = λ e. pc_text e.0 (sum_or (get nat_cmp sums.loads e.0)) (sum_or (get nat_cmp sums.stores e.0)) in
    on_ok_weaker {P = new ≡ before ++ last} c.extend_from_slice.result
    (λ all homefree rs ends running are. record {
      sums = flat_map epoch_line sums.epochs.entries ++ flat_map pair_line (reverse sums.pairs.items) ++ flat_map (line_line image rs) sums.lines.items
          ++ flat_map (pc_line rs) sums.instructions.entries ++ kind_lines rs ++ total_line image homefree rs ends running;
      summed = record {
        epochs = sums.epochs;
        epochs_are = record { each = are.epochs_are; ascending = c.push_epochs.ensures.ascending };
        pairs = reverse sums.pairs.items;
        pairs_are = are.pairs_are;
        lines = are.by_line;
        lines_are = are.by_line_are;
        ordered_lines = sums.lines.items;
        lines_ordered = are.lines_are;
        instructions = sums.instructions;
        instructions_are = record { each = are.instructions_are; ascending = c.push_instructions.ensures.ascending };
        printed = refl;
      };
      printed =
          five_parts c.args.text.now.items c.push_epochs.new.text.items c.push_pairs.new.text.items c.push_lines.new.text.items before new
          (flat_map epoch_line sums.epochs.entries) (flat_map pair_line (reverse sums.pairs.items)) (flat_map line_told c.as_slice.result.now) (flat_map pc_told sums.instructions.entries) last
          (flat_map pair_line (reverse sums.pairs.items)) (flat_map (line_line image rs) sums.lines.items) (flat_map (pc_line rs) sums.instructions.entries) (kind_lines rs) (total_line image homefree rs ends running)
          c.in_ok-push_epochs.ensures.told c.in_ok-push_pairs.ensures c.in_ok-push_lines.ensures c.in_ok-push_instructions.ensures.told all
          refl
          (ap (flat_map line_told) c.as_slice.ensures.value
          ∙ same_lines line_told (line_line image rs) (λ e. ap (line_text image e) (line_counts rs sums.kinds e.0 are.kinds_are)) sums.lines.items)
          (same_lines pc_told (pc_line rs)
          (λ e. ap (λ o. pc_text e.0 (sum_or o) (sum_or (get nat_cmp sums.stores e.0))) (are.loads_are e.0) ∙ ap (λ o. pc_text e.0 (sum_or (sum_at Load rs e.0)) (sum_or o)) (are.stores_are e.0))
          sums.instructions.entries)
          (c.as_slice-2.ensures.value ∙ are.last_are);
    })
    (ended c.extend_from_slice.result new before last c.extend_from_slice.ensures.items)
