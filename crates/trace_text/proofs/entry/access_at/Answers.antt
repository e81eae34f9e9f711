use Rattle.std.proofs.Common.{◌∷◌, ap, ◌∙◌}
use Rattle.trace_text.specs.TraceText.{what_in}
use Rattle.trace_text.specs.Accesses.{keyword_of}
use Rattle.trace_text.specs.Front.{first_word}
use Rattle.trace_text.proofs.Accesses.{is_of}
use Rattle.trace_text.proofs.FirstWords.{first_words, more_words, one_word, same_says, under_word, under_words, words}
use Rattle.trace_text.proofs.Keywords.{access-no_address, access-no_value, access-no_width, access-one, access-some, access-two}
use Rattle.trace_text.proofs.entry.access_at.Goals as goal

pub returns-in_err-addr : goal.returns-in_err-addr
returns-in_err-addr c =
    rw c.from_residual.ensures (ap (what_in (keyword_of c.args.access)) (words c.args.text.now) ∙ access-no_address (keyword_of c.args.access) _ _ (is_of c.args.access) c.in_err-addr.ensures)

pub returns-in_err-second : goal.returns-in_err-second
returns-in_err-second c =
    let line = one_word c.args.text.now c.in_ok-addr.left.now c.in_ok-addr.ensures.after c.in_err-second.ensures in
    rw c.from_residual-in_err-second.ensures (ap (what_in (keyword_of c.args.access)) line ∙ access-one (keyword_of c.args.access) _ (is_of c.args.access))

pub returns-in_err-width : goal.returns-in_err-width
returns-in_err-width c =
    let text = c.args.text.now in
    let second = c.in_ok-second.second.now in
    let line = more_words text c.in_ok-addr.left.now second c.in_ok-addr.ensures.after c.in_ok-second.ensures ∙ ap (λ l. first_word text ∷ l) (words second) in
    rw c.from_residual-in_err-width.ensures (ap (what_in (keyword_of c.args.access)) line ∙ access-no_width (keyword_of c.args.access) _ _ _ (is_of c.args.access) c.in_err-width.ensures)

pub returns-in_err-third : goal.returns-in_err-third
returns-in_err-third c =
    let text = c.args.text.now in
    let second = c.in_ok-second.second.now in
    let line = more_words text c.in_ok-addr.left.now second c.in_ok-addr.ensures.after c.in_ok-second.ensures
    ∙ ap (λ l. first_word text ∷ l) (one_word second c.in_ok-width.left.now c.in_ok-width.ensures.after c.in_err-third.ensures) in
    rw c.from_residual-in_err-third.ensures (ap (what_in (keyword_of c.args.access)) line ∙ access-two (keyword_of c.args.access) _ _ (is_of c.args.access))

pub returns-in_err-value : goal.returns-in_err-value
returns-in_err-value c =
    let text = c.args.text.now in
    let second = c.in_ok-second.second.now in
    let third = c.in_ok-third.third.now in
    let others = more_words second c.in_ok-width.left.now third c.in_ok-width.ensures.after c.in_ok-third.ensures ∙ ap (λ l. first_word second ∷ l) (words third) in
    let line = more_words text c.in_ok-addr.left.now second c.in_ok-addr.ensures.after c.in_ok-second.ensures ∙ ap (λ l. first_word text ∷ l) others in
    rw c.from_residual-in_err-value.ensures (ap (what_in (keyword_of c.args.access)) line ∙ access-no_value (keyword_of c.args.access) _ _ _ _ c.in_err-value.ensures)

pub returns : goal.returns
returns c =
    let text = c.args.text.now in
    let second = c.in_ok-second.second.now in
    let third = c.in_ok-third.third.now in
    let left = c.in_ok-value.left.now in
    let others = more_words second c.in_ok-width.left.now third c.in_ok-width.ensures.after c.in_ok-third.ensures
    ∙ ap (λ l. first_word second ∷ l) (first_words third left c.in_ok-value.ensures.after) in
    let line = more_words text c.in_ok-addr.left.now second c.in_ok-addr.ensures.after c.in_ok-second.ensures ∙ ap (λ l. first_word text ∷ l) others in
    let under = under_words text c.in_ok-addr.left.now second c.in_ok-addr.ensures.after c.in_ok-second.ensures
    ∙ (under_words second c.in_ok-width.left.now third c.in_ok-width.ensures.after c.in_ok-third.ensures ∙ under_word third left c.in_ok-value.ensures.after) in
    let is = ap (what_in (keyword_of c.args.access)) line
    ∙ access-some (keyword_of c.args.access) _ _ _ _ c.in_ok-addr.addr c.in_ok-width.width c.in_ok-value.value c.access_of.result c.in_ok-addr.ensures.is c.in_ok-width.ensures.is c.in_ok-value.ensures.is c.access_of.ensures in
    same_says _ _ _ _ c.only_at.result is under c.only_at.ensures
