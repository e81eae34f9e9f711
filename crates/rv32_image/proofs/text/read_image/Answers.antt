use Rattle.std.proofs.Common.{ap, Err}
use Rattle.std.proofs.lemmas.Result.{err_from_is_err_and}
use Rattle.rv32_image.proofs.Inputs.{answers_read, fault_answers}
use Rattle.rv32_image.proofs.text.read_image.Goals as goal

pub returns-in_err-text-clause-text : goal.returns-in_err-text-clause-text
returns-in_err-text-clause-text g c =
    let p = err_from_is_err_and c.from_residual.result c.from_residual.ensures.1 in
    rw (p.1, p.2) (fault_answers (g.R.Read.remaining c.args.reader.now) c.in_err-text.field-0.0 (λ e. c.in_err-text.ensures.long (ap Err e)))

pub returns-clause-text : goal.returns-clause-text
returns-clause-text g c =
    answers_read (g.R.Read.remaining c.args.reader.now) c.as_slice.result.now c.image_of.result (rw c.as_slice.ensures.value c.in_ok-text.ensures.whole) c.image_of.ensures
