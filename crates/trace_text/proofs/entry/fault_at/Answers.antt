use Rattle.std.proofs.Common.{◌∷◌, codes, ap, ◌∙◌}
use Rattle.trace_text.specs.TraceText.{what_in}
use Rattle.trace_text.specs.Front.{first_word}
use Rattle.trace_text.proofs.FirstWords.{first_words, more_words, one_word, same_says, under_word, under_words, words}
use Rattle.trace_text.proofs.Keywords.{fault-no_cause, fault-no_pc, fault-one, fault-some}
use Rattle.trace_text.proofs.entry.fault_at.Goals as goal

pub returns-in_err-cause : goal.returns-in_err-cause
returns-in_err-cause c = rw c.from_residual.ensures (ap (what_in (codes "fault")) (words c.args.text.now) ∙ fault-no_cause _ _ c.in_err-cause.ensures)

pub returns-in_err-second : goal.returns-in_err-second
returns-in_err-second c =
    let line = one_word c.args.text.now c.in_ok-cause.left.now c.in_ok-cause.ensures.after c.in_err-second.ensures in
    rw c.from_residual-in_err-second.ensures (ap (what_in (codes "fault")) line ∙ fault-one _)

pub returns-in_err-pc : goal.returns-in_err-pc
returns-in_err-pc c =
    let text = c.args.text.now in
    let second = c.in_ok-second.second.now in
    let line = more_words text c.in_ok-cause.left.now second c.in_ok-cause.ensures.after c.in_ok-second.ensures ∙ ap (λ l. first_word text ∷ l) (words second) in
    rw c.from_residual-in_err-pc.ensures (ap (what_in (codes "fault")) line ∙ fault-no_pc _ _ _ c.in_err-pc.ensures)

pub returns : goal.returns
returns c =
    let text = c.args.text.now in
    let second = c.in_ok-second.second.now in
    let left = c.in_ok-pc.left.now in
    let line = more_words text c.in_ok-cause.left.now second c.in_ok-cause.ensures.after c.in_ok-second.ensures
    ∙ ap (λ l. first_word text ∷ l) (first_words second left c.in_ok-pc.ensures.after) in
    let under = under_words text c.in_ok-cause.left.now second c.in_ok-cause.ensures.after c.in_ok-second.ensures ∙ under_word second left c.in_ok-pc.ensures.after in
    let is = ap (what_in (codes "fault")) line ∙ fault-some _ _ _ c.in_ok-cause.cause c.in_ok-pc.pc c.in_ok-cause.ensures.is c.in_ok-pc.ensures.is in
    same_says _ _ _ _ c.only_at.result is under c.only_at.ensures
