use Rattle.std.proofs.Common.{◌∙◌, ℕ, List, ap, sym, subst}
use Rattle.rv32_image.specs.Image.{LoadedImage}
use Rattle.violations.specs.View.{IsCommitted}
use Rattle.replay_command.specs.Shown.{IsReport, outcome_at}
use Rattle.replay_command.proofs.Shows.{of_ended, of_open}
use Rattle.replay_command.proofs.print.report_of.Goals as goal

pub returns-in-Some-clause-outcome : goal.returns-in-Some-clause-outcome
returns-in-Some-clause-outcome g c = λ s replays. ap (λ e. outcome_at e s.homefree) (c.in-Some.ensures.end s replays)

pub returns-in-Some-clause-report : goal.returns-in-Some-clause-report
returns-in-Some-clause-report g c = λ s replays.
    let view = g.S.EpochStore.view in
    let image = c.args.image.now in
    let size = c.in_ok-bytes.ensures.size ∙ ap (λ (image : LoadedImage). image.size) c.requires.image in
    let so = subst (λ (bytes : List ℕ). IsCommitted (view c.args.book.now.store) bytes) (sym c.as_slice.ensures.value) c.in_ok-bytes.ensures.memory in
    subst (λ (r : List ℕ). IsReport image s s.end r) (sym c.in_ok-report-in-Some.ensures)
    (of_ended view image c.args.book.now c.in-Some.ensures.step c.requires.image c.as_slice.result.now so size s replays c.in-Some.end (c.in-Some.ensures.end s replays))

pub returns-clause-report : goal.returns-clause-report
returns-clause-report g c = λ s replays.
    let view = g.S.EpochStore.view in
    let image = c.args.image.now in
    let size = c.in_ok-bytes.ensures.size ∙ ap (λ (image : LoadedImage). image.size) c.requires.image in
    let so = subst (λ (bytes : List ℕ). IsCommitted (view c.args.book.now.store) bytes) (sym c.as_slice-in-None.ensures.value) c.in_ok-bytes.ensures.memory in
    subst (λ (r : List ℕ). IsReport image s s.end r) (sym c.in_ok-report-in-None.ensures)
    (of_open view image c.args.book.now c.in-None.ensures.step c.requires.image c.as_slice-in-None.result.now so size s replays c.homefree-homefree.result
    (c.in-None.ensures.end s replays) (c.homefree-homefree.ensures.homefree s replays))
