use Rattle.std.proofs.Common.{◌∙◌, Err, ap, sym, subst, arith}
use Rattle.std.proofs.lemmas.Result.{err_from_is_err_and}
use Rattle.rv32_image.specs.Cutting.{pieces_after}
use Rattle.trace_text.specs.declared.fault.TraceFaultKind.TheVariants.{Head}
use Rattle.trace_text.specs.Reading.{IsFaultOf}
use Rattle.trace_text.specs.TraceText.{lines_read, trace_at}
use Rattle.trace_text.proofs.Lines.{trace_text-is, trace_at-head, trace_at-none, trace_at-ok, fault_of_entries}
use Rattle.trace_text.proofs.read.read_trace.Goals as goal

pub returns-in_default : goal.returns-in_default
returns-in_default c =
    let said = trace_text-is c.args.version c.args.text.now _ _ (omega arith) c.parts_of.ensures.number c.parts_of.ensures.below in
    said ∙ (ap (trace_at c.args.version c.parts_of.result.below.number) c.in_default.ensures.none ∙ trace_at-none c.args.version _)

pub returns-in_default-cores_in : goal.returns-in_default-cores_in
returns-in_default-cores_in c =
    let said = trace_text-is c.args.version c.args.text.now _ _ (omega arith) c.parts_of.ensures.number c.parts_of.ensures.below in
    let head = ap (trace_at c.args.version c.parts_of.result.below.number) c.in-Some.ensures.line in
    said ∙ (head ∙ (trace_at-head c.args.version c.parts_of.result.below.number _ _ (sym c.in_default-cores_in.ensures)
    ∙ ap (λ n. Err (record { line = n; kind = Head })) (sym c.in-Some.ensures.number)))

pub returns-in_err-entries : goal.returns-in_err-entries
returns-in_err-entries c =
    let said = trace_text-is c.args.version c.args.text.now _ _ (omega arith) c.parts_of.ensures.number c.parts_of.ensures.below in
    let whole = said ∙ ap (trace_at c.args.version c.parts_of.result.below.number) c.in-Some.ensures.line in
    let fault = c.in_err-entries.field-0.0 in
    let below = pieces_after 10 c.next.new.self.rest in
    let p = err_from_is_err_and c.from_residual.result c.from_residual.ensures.1 in
    rw (p.1, p.2) (fault_of_entries _ _ c.args.version _ _ _ c.in-Some-cores_in.cores _ whole (sym c.in-Some-cores_in.ensures)
    (subst (λ n. IsFaultOf fault.kind fault (lines_read n below)) c.in-Some.ensures.more c.in_err-entries.ensures))

pub returns : goal.returns
returns c =
    let said = trace_text-is c.args.version c.args.text.now _ _ (omega arith) c.parts_of.ensures.number c.parts_of.ensures.below in
    let head = ap (trace_at c.args.version c.parts_of.result.below.number) c.in-Some.ensures.line in
    let entries = sym (ap (λ n. lines_read n (pieces_after 10 c.next.new.self.rest)) c.in-Some.ensures.more) ∙ c.in_ok-entries.ensures in
    said ∙ (head ∙ trace_at-ok c.args.version _ _ _ c.in-Some-cores_in.cores _ (sym c.in-Some-cores_in.ensures) entries)
