use Rattle.std.proofs.Common.{◌<◌, None, refl, sym, subst, ◌∙◌}
use Rattle.rv32_image.specs.Image.{LoadedImage}
use Rattle.std.proofs.Math.ListN.{replicate}
use Rattle.never_or_shown.specs.declared.drive.Drive.{Drive}
use Rattle.never_or_shown.proofs.Staging.{first_is, fresh_drive, no_more, ready_at_first}
use Rattle.never_or_shown.proofs.ahead.run_ahead.Goals as goal

pub take_turns-taken-requires-clause-drive : goal.take_turns-taken-requires-clause-drive
take_turns-taken-requires-clause-drive c =
    let made = c.in_ok-book.ensures in
    let d : Drive = record { book = c.in_ok-book.book; shares = c.in_ok-book.shares; held = replicate 16 None } in
    fresh_drive d made.history (no_more c.in_ok-book.shares c.in_ok-book.book.totals (made.shares ∙ sym made.totals)) refl made.stopped

pub take_turns-taken-requires-clause-begins : goal.take_turns-taken-requires-clause-begins
take_turns-taken-requires-clause-begins c = λ some.
    let made = c.in_ok-book.ensures in
    ready_at_first c.in_ok-book.book (subst (λ (i : LoadedImage). 0 < i.epochs) (sym made.image) some) (first_is c.in_ok-book.book made.history)
