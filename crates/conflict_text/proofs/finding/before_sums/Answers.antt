use Rattle.conflict_text.proofs.Telling.{counted_of}
use Rattle.conflict_text.proofs.finding.before_sums.Goals as goal

pub returns-clause-counted : goal.returns-clause-counted
returns-clause-counted c =
    let found = c.in_ok-findings.ensures in
    counted_of c.args.wanted c.args.traced.image c.args.traced.cores c.as_slice-entries.result.now c.args.traced.entries.items c.as_slice.result.now c.args.sites.items c.in_ok-findings.field-0.homefree
    _ _ _ _ _ _ c.in_ok-totals.totals c.as_slice-entries.ensures.value c.as_slice.ensures.value found.found found.ended found.running c.in_ok-rest.ensures c.in_ok-push_wanted.ensures c.in_ok-totals.ensures
