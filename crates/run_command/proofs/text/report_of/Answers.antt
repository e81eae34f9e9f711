use Rattle.std.proofs.Common.{◌≡◌, ◌∙◌, ℕ, List, IfOk, ap, sym, subst}
use Rattle.rv32_image.specs.Image.{LoadedImage}
use Rattle.violations.specs.View.{IsCommitted}
use Rattle.run_command.proofs.Printing.{result_is}
use Rattle.run_command.proofs.text.report_of.Goals as goal

pub returns : goal.returns
returns g c =
    let view = g.S.EpochStore.view c.args.run.now.book.store in
    let so = subst (λ (bytes : List ℕ). IsCommitted view bytes) (sym c.as_slice.ensures.value) c.in_ok-bytes.ensures.memory in
    let size = c.in_ok-bytes.ensures.size ∙ ap (λ (image : LoadedImage). image.size) c.requires.image in
    subst (λ (printed : List ℕ). IfOk c.print_report.result (λ text. text.items ≡ printed))
    (result_is c.args.image.now c.args.run.now.end view c.as_slice.result.now c.requires.in_order so size) c.print_report.ensures
