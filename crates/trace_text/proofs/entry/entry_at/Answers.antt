use Rattle.std.proofs.Common.{◌∷◌, ap, sym, ◌∙◌}
use Rattle.trace_text.specs.TraceText.{entry_in}
use Rattle.trace_text.specs.Front.{first_word}
use Rattle.trace_text.proofs.FirstWords.{more_words, one_word, under_words, words}
use Rattle.trace_text.proofs.Keywords.{entry_in-no_core, entry_in-no_what, entry_in-one, entry_in-some}
use Rattle.trace_text.proofs.entry.entry_at.Goals as goal

pub returns-in_err-by : goal.returns-in_err-by
returns-in_err-by c = rw c.from_residual.ensures (ap entry_in (words c.args.text.now) ∙ entry_in-no_core _ _ c.in_err-by.ensures)

pub returns-in_err-words : goal.returns-in_err-words
returns-in_err-words c =
    let line = one_word c.args.text.now c.in_ok-by.left.now c.in_ok-by.ensures.after c.in_err-words.ensures in
    rw c.from_residual-in_err-words.ensures (ap entry_in line ∙ entry_in-one _)

pub returns-in_err-what : goal.returns-in_err-what
returns-in_err-what c =
    let text = c.args.text.now in
    let others = c.in_ok-words.words.now in
    let line = more_words text c.in_ok-by.left.now others c.in_ok-by.ensures.after c.in_ok-words.ensures
    ∙ ap (λ l. first_word text ∷ l) (words others) in
    rw c.from_residual-in_err-what.ensures (ap entry_in line ∙ entry_in-no_what _ _ _ c.in_ok-by.by c.in_ok-by.ensures.is c.in_err-what.ensures)

pub returns : goal.returns
returns c =
    let text = c.args.text.now in
    let others = c.in_ok-words.words.now in
    let line = more_words text c.in_ok-by.left.now others c.in_ok-by.ensures.after c.in_ok-words.ensures
    ∙ ap (λ l. first_word text ∷ l) (words others) in
    let under = under_words text c.in_ok-by.left.now others c.in_ok-by.ensures.after c.in_ok-words.ensures in record {
      is = ap entry_in line ∙ entry_in-some _ _ _ c.in_ok-by.by c.in_ok-what.what c.in_ok-by.ensures.is c.in_ok-what.ensures.is;
      under = c.in_ok-what.ensures.under ∙ sym under;
    }
