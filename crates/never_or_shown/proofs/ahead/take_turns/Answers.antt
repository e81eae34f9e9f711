use Rattle.std.proofs.Common.{◌≡◌, ◌<◌, ◌≤◌, ◌+◌, ◌-◌, sym, subst, ◌∙◌, arith}
use Rattle.rv32_image.specs.Image.{LoadedImage}
use Rattle.dependences.specs.Conflict.{first_beside}
use Rattle.never_or_shown.specs.Drives.{IsHalted}
use Rattle.never_or_shown.specs.Shown.{IsConflictAt}
use Rattle.never_or_shown.specs.Windows.{HasCommittedBefore, IsStarting, MeetsNone}
use Rattle.never_or_shown.proofs.Staging.{is_ahead, none_alone, none_shown, result_by}
use Rattle.never_or_shown.proofs.ahead.take_turns.Goals as goal

pub returns-in-Again-clause-taken : goal.returns-in-Again-clause-taken
returns-in-Again-clause-taken c =
    let image = c.args.image.now in
    let cores = c.args.cores in
    let later = c.args.later in
    let first = c.saturating_sub-first.result in
    let last = later - first in
    let first_at : first ≡ first_beside cores later = c.saturating_sub-first.ensures in
    let sum : first + last ≡ later = omega (arith, first_at) in
    let within : later < image.epochs = omega (arith, c.if-epochs-later.false, c.epochs.ensures.epochs) in
    let before = c.in_ok-commit_before.ensures.same.image ∙ c.requires.image in
    let starts = c.in_ok-start_window.ensures.same.image ∙ before in
    let ran = c.in_ok-run.ensures.same.image ∙ starts in
    let ready = subst (HasCommittedBefore c.args.drive.now.book.image c.commit_before.new.drive first) c.if-not-branch.false c.in_ok-commit_before.ensures.committed in
    let starting : IsStarting c.start_window.new.drive.book first (last + 1) =
    c.in_ok-start_window.ensures.started.after first ready.1 (subst (λ (i : LoadedImage). first + (last + 1) ≤ i.epochs) (sym before) (omega (arith, sum, within))) in
    let ahead = is_ahead image c.start_window.new.drive c.run.new.drive first last starting starts c.in_ok-run.field-0 c.in_ok-run.ensures.ran c.in-Again.field-0 c.in-Again.is in
    result_by (λ _. MeetsNone c.run.new.drive last) (λ _. IsConflictAt image cores later → ⊥) (IsHalted c.commit_window.new.drive) c.commit_window.result
    (λ x none. none_shown image c.epochs.ensures.limits cores later first last first_at sum c.run.new.drive ran ahead within none) c.commit_window.ensures.committed

pub returns-in_default : goal.returns-in_default
returns-in_default c =
    let image = c.args.image.now in
    let cores = c.args.cores in
    let later = c.args.later in
    let first = c.saturating_sub-first.result in
    let last = later - first in
    let first_at : first ≡ first_beside cores later = c.saturating_sub-first.ensures in
    let sum : first + last ≡ later = omega (arith, first_at) in
    let within : later < image.epochs = omega (arith, c.if-epochs-later.false, c.epochs.ensures.epochs) in
    let one = c.in_ok-commit_before.ensures.same in
    let two = c.in_ok-start_window.ensures.same in
    let three = c.in_ok-run.ensures.same in
    let before = one.image ∙ c.requires.image in
    let ready = subst (HasCommittedBefore c.args.drive.now.book.image c.commit_before.new.drive first) c.if-not-branch.false c.in_ok-commit_before.ensures.committed in
    let starting : IsStarting c.start_window.new.drive.book first (last + 1) =
    c.in_ok-start_window.ensures.started.after first ready.1 (subst (λ (i : LoadedImage). first + (last + 1) ≤ i.epochs) (sym before) (omega (arith, sum, within))) in record {
      taken = none_alone image c.epochs.ensures.limits cores later first last first_at sum c.start_window.new.drive c.run.new.drive starting (two.image ∙ before) c.in_ok-run.field-0
          c.in_ok-run.ensures.ran c.in_default.not-Again;
      same = record { image = three.image ∙ (two.image ∙ one.image); cores = three.cores ∙ (two.cores ∙ one.cores); room = three.room ∙ (two.room ∙ one.room) };
    }
