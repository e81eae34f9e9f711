use Rattle.std.proofs.Common.{◌≡◌, Ok, MatchResult, map, sym, subst}
use Rattle.rv32_image.specs.ImageText.{image_text}
use Rattle.rv32_image.specs.Reading.{IsReadFaultOf}
use Rattle.trace_commands.specs.declared.outcome.Outcome.{Outcome}
use Rattle.trace_commands.proofs.Audits.{for_each}
use Rattle.depends.specs.Answers.{IsUnwritten, IsWritten}
use Rattle.depends.proofs.Answering.{of_image, refused}
use Rattle.depends.proofs.answer.answer_input.Goals as goal

pub returns-in-Ok-clause-outcome : goal.returns-in-Ok-clause-outcome
returns-in-Ok-clause-outcome g c =
    let old = g.W.Write.contents c.args.writer.now in
    let new = g.W.Write.contents c.answer_image.new.writer in
    for_each (λ text. image_text text ≡ Ok c.in-Ok.image)
    (λ text. MatchResult c.answer_image.result (λ _. IsWritten c.args.cores (map g.S.AsStr.text c.args.stores.now.words.now) c.args.room text old new) (IsUnwritten c.args.cores (map g.S.AsStr.text c.args.stores.now.words.now) c.args.room text old new))
    (g.R.Read.remaining c.args.reader.now)
    (λ text said. of_image c.args.cores (map g.S.AsStr.text c.args.stores.now.words.now) c.args.room text c.in-Ok.image old new said c.answer_image.result c.answer_image.ensures) c.in-Ok.ensures.text

pub returns-in-Err-clause-outcome : goal.returns-in-Err-clause-outcome
returns-in-Err-clause-outcome g c =
    let old = g.W.Write.contents c.args.writer.now in
    for_each (λ text. IsReadFaultOf c.in-Err.fault.kind c.in-Err.fault (image_text text))
    (λ text. IsUnwritten c.args.cores (map g.S.AsStr.text c.args.stores.now.words.now) c.args.room text old old c.of_fault.result) (g.R.Read.remaining c.args.reader.now)
    (λ text is. subst (λ (o : Outcome). IsUnwritten c.args.cores (map g.S.AsStr.text c.args.stores.now.words.now) c.args.room text old old o) (sym c.of_fault.ensures)
    (refused c.args.cores (map g.S.AsStr.text c.args.stores.now.words.now) c.args.room text old c.in-Err.fault.line c.in-Err.fault.kind is)) c.in-Err.ensures.text
