use Rattle.std.proofs.Common.{ap, sym, ◌∙◌}
use Rattle.trace_text.specs.TraceText.{what_in}
use Rattle.trace_text.proofs.FirstWords.{first_words, same_says, under_word, words}
use Rattle.trace_text.proofs.Keywords.{epoch-no_number, epoch-no_what, epoch-some}
use Rattle.trace_text.proofs.entry.epoch_at.Goals as goal

pub returns-in_err-epoch : goal.returns-in_err-epoch
returns-in_err-epoch c =
    rw c.from_residual.ensures (ap (what_in c.args.keyword.now) (words c.args.text.now) ∙ epoch-no_number c.args.keyword.now _ _ c.requires c.in_err-epoch.ensures)

pub returns-in_err-what : goal.returns-in_err-what
returns-in_err-what c =
    rw c.from_residual-in_err-what.ensures
    (ap (what_in c.args.keyword.now) (words c.args.text.now)
    ∙ epoch-no_what c.args.keyword.now _ _ c.in_ok-epoch.epoch c.requires c.in_ok-epoch.ensures.is (sym c.in_err-what.ensures))

pub returns : goal.returns
returns c =
    let text = c.args.text.now in
    let left = c.in_ok-epoch.left.now in
    let is = ap (what_in c.args.keyword.now) (first_words text left c.in_ok-epoch.ensures.after)
    ∙ epoch-some c.args.keyword.now _ _ c.in_ok-epoch.epoch c.in_ok-what.what c.requires c.in_ok-epoch.ensures.is (sym c.in_ok-what.ensures) in
    same_says _ _ _ _ c.only_at.result is (under_word text left c.in_ok-epoch.ensures.after) c.only_at.ensures
