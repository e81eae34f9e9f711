use Rattle.std.proofs.Common.{length, map, subst, sym}
use Rattle.rv32_image.specs.Image.{LoadedImage}
use Rattle.conflict_findings.specs.Ends.{ended_before, running_after}
use Rattle.conflict_findings.specs.Rollbacks.{rollback_at}
use Rattle.conflict_text.specs.Totals.{AreTotals, IsSummed}
use Rattle.conflict_text.proofs.Answering.{is_report}
use Rattle.conflict_text.proofs.finding.print.Goals as goal

pub returns-clause-report : goal.returns-clause-report
returns-clause-report c =
    let image = c.args.traced.image in
    let cores = c.args.traced.cores in
    let entries = c.args.traced.entries.items in
    let counted = c.in_ok-report.ensures.counted in
    let same = c.in_ok-report.ensures.image in
    let homefree = c.in_ok-report.report.homefree in
    let rollbacks = map (rollback_at image entries c.args.sites.items) counted.found in
    let ended = ended_before image cores entries (length entries) in
    let running = running_after image cores entries in
    let totals = subst (λ (i : LoadedImage). AreTotals i homefree rollbacks ended running c.in_ok-report.totals) (sym same) counted.counted in
    let printed = subst (λ (i : LoadedImage). IsSummed i homefree rollbacks ended running c.in_ok-report.report.rest.items c.push_totals.new.text.items) same
    (c.in_ok-push_totals.ensures homefree rollbacks ended running totals) in
    is_report c.args.wanted image cores entries c.args.sites.items homefree _ _ _ _ c.requires counted printed
