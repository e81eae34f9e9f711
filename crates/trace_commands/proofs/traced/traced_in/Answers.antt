use Rattle.std.proofs.Common.{ap, sym, subst, ◌∙◌}
use Rattle.rv32_image.specs.ImageText.{image_text}
use Rattle.trace_text.specs.TraceText.{trace_text}
use Rattle.trace_text.specs.Reading.{IsFaultOf}
use Rattle.trace_commands.proofs.Audits.{refused_trace}
use Rattle.trace_commands.proofs.traced.traced_in.Goals as goal

pub returns-in-Err-read_trace : goal.returns-in-Err-read_trace
returns-in-Err-read_trace c =
    let fault = c.in-Err-read_trace.fault in
    let image_is = ap image_text (sym c.image_part.ensures) ∙ c.in-Ok.ensures in
    let said = subst (λ version. IsFaultOf fault.kind fault (trace_text version c.args.text.now)) c.version.ensures.version c.in-Err-read_trace.ensures in
    rw c.of_trace_fault.ensures (refused_trace fault.line fault.kind c.args.text.now c.in-Ok.image c.requires image_is said)
