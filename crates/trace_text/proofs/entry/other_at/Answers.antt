use Rattle.std.proofs.Common.{◌≡◌, true, codes, ap, sym, ◌∙◌}
use Rattle.std.proofs.lemmas.Slice.Eq.{bytes_eq-Decides}
use Rattle.std.specs.Str.{bytes_eq}
use Rattle.trace_text.specs.TraceText.{what_in}
use Rattle.trace_text.specs.Front.{only, words_in}
use Rattle.trace_text.proofs.Accesses.{no_access, said_is}
use Rattle.trace_text.proofs.FirstWords.{same_says, under_word, under_words}
use Rattle.trace_text.proofs.Keywords.{alone, only_none}
use Rattle.trace_text.proofs.entry.other_at.Goals as goal

pub returns-in_err-what : goal.returns-in_err-what
returns-in_err-what c =
    let keyword = c.word_at.result.0.now in
    rw c.from_residual.ensures
    (said_is c.args.text.now keyword _ c.word_at.ensures ∙ (ap (what_in keyword) c.in_default.ensures ∙ (alone keyword ∙ sym c.in_err-what.ensures)))

pub returns-in_default : goal.returns-in_default
returns-in_default c =
    let text = c.args.text.now in
    let keyword = c.word_at.result.0.now in
    let left = c.word_at.result.1.now in
    let said = said_is text keyword left c.word_at.ensures ∙ (ap (what_in keyword) c.in_default.ensures ∙ (alone keyword ∙ sym c.in_ok-what.ensures)) in
    let is = said ∙ sym (ap (only c.in_ok-what.what) c.in_default.ensures ∙ only_none c.in_ok-what.what) in
    same_says _ _ _ _ c.only_at.result is (under_word text left c.word_at.ensures.after) c.only_at.ensures

pub epoch_at-requires : goal.epoch_at-requires
epoch_at-requires c = record {
  no_access = no_access c.args.text.now c.word_at.result.0.now c.word_at.result.1.now c.in-Some.words.now c.word_at.ensures c.in-Some.ensures c.requires;
  no_fault = ap (bytes_eq c.word_at.result.0.now) (sym c.as_slice.ensures) ∙ (sym c.eq.ensures ∙ c.if-eq.false);
}

pub returns-then-eq : goal.returns-then-eq
returns-then-eq c =
    let text = c.args.text.now in
    let keyword = c.word_at.result.0.now in
    let left = c.word_at.result.1.now in
    let equal : bytes_eq keyword (codes "fault") ≡ true = ap (bytes_eq keyword) (sym c.as_slice.ensures) ∙ (sym c.eq.ensures ∙ c.if-eq.true) in
    let fault : keyword ≡ codes "fault" = (bytes_eq-Decides keyword (codes "fault")).0 equal in
    let is = said_is text keyword left c.word_at.ensures ∙ (ap (what_in keyword) c.in-Some.ensures.words ∙ ap (λ w. what_in w (words_in c.in-Some.words.now)) fault) in
    same_says _ _ _ _ c.fault_at.result is (under_words text left c.in-Some.words.now c.word_at.ensures.after c.in-Some.ensures) c.fault_at.ensures

pub returns-else-eq : goal.returns-else-eq
returns-else-eq c =
    let text = c.args.text.now in
    let keyword = c.word_at.result.0.now in
    let left = c.word_at.result.1.now in
    let is = said_is text keyword left c.word_at.ensures ∙ ap (what_in keyword) c.in-Some.ensures.words in
    same_says _ _ _ _ c.epoch_at.result is (under_words text left c.in-Some.words.now c.word_at.ensures.after c.in-Some.ensures) c.epoch_at.ensures
