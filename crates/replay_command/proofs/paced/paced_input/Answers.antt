use Rattle.std.proofs.Common.{◌≡◌, Ok, sym, subst}
use Rattle.rv32_image.specs.ImageText.{image_text}
use Rattle.rv32_image.specs.Reading.{IsReadFaultOf}
use Rattle.trace_commands.specs.declared.outcome.Outcome.{Outcome}
use Rattle.run_command.proofs.Outcomes.{for_text}
use Rattle.replay_command.specs.Paced.{IsPacedOutcome}
use Rattle.replay_command.proofs.Paces.{paced_of_image, paced_refused}
use Rattle.replay_command.proofs.paced.paced_input.Goals as goal

pub returns-in-Ok-clause-outcome : goal.returns-in-Ok-clause-outcome
returns-in-Ok-clause-outcome g c =
    let starts = g.S.EpochStore.starts in
    let makes = g.S.EpochStore.makes in
    let view = g.S.EpochStore.view in
    let waits = g.S.EpochStore.waits in
    let prices = g.S.PricedStore.prices in
    let keeps = g.S.PricedStore.keeps in
    let old = g.W.Write.contents c.args.writer.now in
    let new = g.W.Write.contents c.paced_image.new.writer in
    for_text (g.R.Read.remaining c.args.reader.now) (λ text. image_text text ≡ Ok c.in-Ok.image)
    (λ text. IsPacedOutcome starts makes view waits prices keeps c.args.addresses.now c.args.asked.pace c.args.asked.cores c.args.asked.settings text old new c.paced_image.result)
    (λ text said. paced_of_image starts makes view waits prices keeps c.args.addresses.now c.args.asked.pace c.args.asked.cores c.args.asked.settings text c.in-Ok.image old new said c.paced_image.result c.paced_image.ensures) c.in-Ok.ensures.text

pub returns-in-Err-clause-outcome : goal.returns-in-Err-clause-outcome
returns-in-Err-clause-outcome g c =
    let starts = g.S.EpochStore.starts in
    let makes = g.S.EpochStore.makes in
    let view = g.S.EpochStore.view in
    let waits = g.S.EpochStore.waits in
    let prices = g.S.PricedStore.prices in
    let keeps = g.S.PricedStore.keeps in
    let old = g.W.Write.contents c.args.writer.now in
    for_text (g.R.Read.remaining c.args.reader.now) (λ text. IsReadFaultOf c.in-Err.fault.kind c.in-Err.fault (image_text text))
    (λ text. IsPacedOutcome starts makes view waits prices keeps c.args.addresses.now c.args.asked.pace c.args.asked.cores c.args.asked.settings text old old c.of_fault.result)
    (λ text is. subst (λ (o : Outcome). IsPacedOutcome starts makes view waits prices keeps c.args.addresses.now c.args.asked.pace c.args.asked.cores c.args.asked.settings text old old o) (sym c.of_fault.ensures)
    (paced_refused starts makes view waits prices keeps c.args.addresses.now c.args.asked.pace c.args.asked.cores c.args.asked.settings text old c.in-Err.fault.line c.in-Err.fault.kind is)) c.in-Err.ensures.text
