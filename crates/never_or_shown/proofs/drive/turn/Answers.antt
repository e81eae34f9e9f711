use Rattle.std.proofs.Common.{◌∙◌}
use Rattle.never_or_shown.specs.declared.drive.Drive.{Drive}
use Rattle.never_or_shown.proofs.Books.{calm_more, drive_still, go_grows}
use Rattle.never_or_shown.proofs.drive.turn.Goals as goal

pub returns-clause-turned : goal.returns-clause-turned
returns-clause-turned c =
    let old = c.args.drive.now in
    let new : Drive = record { book = c.step.new.book; shares = c.step.new.shares; held = c.step.new.held } in
    let core = c.args.core in
    let answer = c.in-Ok.answer in
    let drive = c.requires.drive in
    let before = c.look.ensures in
    let after = c.look-2.ensures in
    let grown = c.step.ensures.grows in
    let calm = calm_more old.book.history new.book.history grown.entries c.history.result.now c.len-before.result drive.calm grown.history c.history.ensures c.len-before.ensures
    (c.has_violation.ensures.none c.if-has_violation.false) in
    let turned = c.in-Ok.ensures.turned in
    let still = drive_still old new core answer drive before after calm turned c.in-Ok.ensures.harts in record {
      drive = record {
        shares = c.step.ensures.shares;
        held = c.step.ensures.held;
        unstopped = grown.stopped ∙ drive.unstopped;
        calm = calm;
        quiet = λ s replays going. (still s replays going).0;
        harts = λ s replays going. (still s replays going).1;
      };
      unstopped = drive.unstopped;
      before = before;
      after = after;
      turned = turned;
      grows = go_grows old new core answer drive before after calm turned;
    }
