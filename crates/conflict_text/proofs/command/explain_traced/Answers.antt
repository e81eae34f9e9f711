use Rattle.std.proofs.Common.{◌∙◌, ◌++◌, [], ap, append-nil, rules, sym, subst}
use Rattle.trace_commands.specs.declared.outcome.Verdict.TheVariants.{Illegal, Legal}
use Rattle.conflict_text.specs.Explaining.{IsReport}
use Rattle.conflict_text.proofs.Answering.{refused_at, told_outcome}
use Rattle.conflict_text.proofs.command.explain_traced.Goals as goal

pub returns-in-Ok : goal.returns-in-Ok
returns-in-Ok g c =
    let image = c.args.traced.image in
    let cores = c.args.traced.cores in
    let history = c.args.traced.entries.items in
    let v = c.in-Ok.ensures.verdict in
    let report = c.in-Ok.report in
    let lines = report.violations.items in
    let rest = c.as_slice-in-Ok.result.now in
    let whole = ap (λ t. t ++ rest) c.as_slice.ensures.value ∙ ap (λ t. lines ++ t) c.as_slice-in-Ok.ensures.value in
    told_outcome c.args.wanted image cores history (Legal c.len-entries.result report.homefree) (c.as_slice.result.now ++ rest) (g.W.Write.contents c.args.writer.now) (g.W.Write.contents c.tell.new.writer) c.tell.result
    (record {
      audited = (v.0, v.1, v.2, c.len-entries.ensures ∙ c.args.traced.entries.ok.0);
      told_is = subst (IsReport c.args.wanted image cores history report.homefree) (sym whole) c.in-Ok.ensures.report;
    })
    c.tell.ensures

pub returns-in-Err : goal.returns-in-Err
returns-in-Err g c =
    let image = c.args.traced.image in
    let cores = c.args.traced.cores in
    let history = c.args.traced.entries.items in
    told_outcome c.args.wanted image cores history (Illegal c.in-Err.place c.in-Err.refusal) (c.as_bytes.result.now ++ []) (g.W.Write.contents c.args.writer.now) (g.W.Write.contents c.tell-in-Err.new.writer) c.tell-in-Err.result
    (record {
      audited = refused_at image cores history c.in-Err.place c.in-Err.refusal c.in-Err.ensures.verdict (search rules);
      told_is = append-nil c.as_bytes.result.now ∙ (c.as_bytes.ensures.value ∙ (c.deref.ensures.0 ∙ c.verdict_line.ensures));
    })
    c.tell-in-Err.ensures
