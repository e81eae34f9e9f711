use Rattle.std.proofs.Common.{◌*◌, ◌++◌, ap, ◌∙◌}
use Rattle.trace_commands.specs.Report.{row_line}
use Rattle.trace_commands.proofs.Rows.{row_lines-none, row_lines-more}
use Rattle.trace_commands.proofs.report.push_rows.Goals as goal

pub loop-row-init : goal.loop-row-init
loop-row-init c = row_lines-none c.args.text.now.items c.args.loaded.now c.args.bytes.now

pub loop-row-preserved : goal.loop-row-preserved
loop-row-preserved c =
    let loaded = c.args.loaded.now in
    let bytes = c.args.bytes.now in
    c.in_ok-push_row.ensures
    ∙ (ap (λ t. t ++ row_line loaded bytes (16 * c.loop-row.row)) c.loop-row.invariant
    ∙ row_lines-more c.args.text.now.items loaded bytes c.loop-row.row)
