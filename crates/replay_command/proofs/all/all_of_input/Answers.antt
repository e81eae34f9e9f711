use Rattle.std.proofs.Common.{◌≡◌, Ok, MatchResult, sym, subst}
use Rattle.rv32_image.specs.ImageText.{image_text}
use Rattle.rv32_image.specs.Reading.{IsReadFaultOf}
use Rattle.trace_commands.specs.declared.outcome.Outcome.{Outcome}
use Rattle.run_command.proofs.Outcomes.{for_text}
use Rattle.replay_command.specs.AllSchedules.{IsUnwritten, IsWritten}
use Rattle.replay_command.proofs.Alls.{of_image, refused}
use Rattle.replay_command.proofs.all.all_of_input.Goals as goal

pub returns-in-Ok-clause-outcome : goal.returns-in-Ok-clause-outcome
returns-in-Ok-clause-outcome g c =
    let starts = g.S.EpochStore.starts in
    let makes = g.S.EpochStore.makes in
    let view = g.S.EpochStore.view in
    let waits = g.S.EpochStore.waits in
    let old = g.W.Write.contents c.args.writer.now in
    let new = g.W.Write.contents c.all_of_image.new.writer in
    for_text (g.R.Read.remaining c.args.reader.now) (λ text. image_text text ≡ Ok c.in-Ok.image)
    (λ text. MatchResult c.all_of_image.result (λ _. IsWritten starts makes view waits c.args.cores c.args.settings c.args.turns text old new)
    (IsUnwritten starts makes view waits c.args.cores c.args.settings c.args.turns text old new))
    (λ text said. of_image starts makes view waits c.args.cores c.args.settings c.args.turns text c.in-Ok.image old new said c.all_of_image.result c.all_of_image.ensures) c.in-Ok.ensures.text

pub returns-in-Err-clause-outcome : goal.returns-in-Err-clause-outcome
returns-in-Err-clause-outcome g c =
    let starts = g.S.EpochStore.starts in
    let makes = g.S.EpochStore.makes in
    let view = g.S.EpochStore.view in
    let waits = g.S.EpochStore.waits in
    let old = g.W.Write.contents c.args.writer.now in
    for_text (g.R.Read.remaining c.args.reader.now) (λ text. IsReadFaultOf c.in-Err.fault.kind c.in-Err.fault (image_text text))
    (λ text. IsUnwritten starts makes view waits c.args.cores c.args.settings c.args.turns text old old c.of_fault.result)
    (λ text is. subst (λ (o : Outcome). IsUnwritten starts makes view waits c.args.cores c.args.settings c.args.turns text old old o) (sym c.of_fault.ensures)
    (refused starts makes view waits c.args.cores c.args.settings c.args.turns text old c.in-Err.fault.line c.in-Err.fault.kind is)) c.in-Err.ensures.text
