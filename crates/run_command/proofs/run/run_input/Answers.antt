use Rattle.std.proofs.Common.{◌≡◌, Ok}
use Rattle.rv32_image.specs.ImageText.{image_text}
use Rattle.homefree.specs.Missed.{IsOfCaches}
use Rattle.run_command.specs.Threads.{IsMachineOutcome, IsThreadsOutcome}
use Rattle.run_command.proofs.Outcomes.{for_text, of_image}
use Rattle.run_command.proofs.run.run_input.Goals as goal

pub returns-in-Ok-clause-outcome : goal.returns-in-Ok-clause-outcome
returns-in-Ok-clause-outcome g c =
    let caches = IsOfCaches g.S.EpochStore.view in
    let old = g.W.Write.contents c.args.writer.now in
    let new = g.W.Write.contents c.run_image.new.writer in
    for_text (g.R.Read.remaining c.args.reader.now) (λ text. image_text text ≡ Ok c.in-Ok.image)
    (λ text. IsThreadsOutcome caches c.args.asked.machine c.args.asked.options text old new c.run_image.result)
    (λ text said. of_image (IsMachineOutcome caches c.args.asked.machine c.args.asked.options old new) text c.in-Ok.image old new said (λ fault is. is.1) (λ is. is.1.1) c.run_image.result c.run_image.ensures)
    c.in-Ok.ensures.text
