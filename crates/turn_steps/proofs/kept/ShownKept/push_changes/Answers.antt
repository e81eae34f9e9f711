use Rattle.std.proofs.Common.{◌≡◌, ◌++◌, ℕ, List, ap, arith, refl, subst, sym, ◌∙◌}
use Rattle.std.proofs.lemmas.Result.{on_ok_weaker}
use Rattle.std.specs.Result.{OnOk}
use Rattle.violations.specs.Plain.{store_view}
use Rattle.violations.specs.View.{IsClear, StoreView}
use Rattle.turn_steps.specs.Kept.{is_speculative}
use Rattle.turn_steps.specs.KeptRow.{kept_of, nothing}
use Rattle.turn_steps.specs.Rows.{row_count}
use Rattle.turn_steps.proofs.Keeping.{is_clear, rest_of_kept, shows_kept, shows_nothing, text_of_kept}
use Rattle.turn_steps.proofs.Reading.{kept_clear}
use Rattle.turn_steps.proofs.kept.ShownKept.push_changes.Goals as goal

pub returns-then-is_speculative-clause-text : goal.returns-then-is_speculative-clause-text
returns-then-is_speculative-clause-text c old shows but =
    let now : StoreView = store_view c.args.store.now in
    let whole : c.of-count.result ≡ row_count now = omega (arith, c.of-count.ensures, c.size.ensures.size) in
    subst (λ (t : List ℕ). OnOk c.push_rows.result (c.push_rows.new.text.items ≡ c.args.text.now.items ++ t))
    (text_of_kept old now c.args.core c.of-count.result c.args.self.now (kept_of now c.args.core) whole but.size shows (λ row. refl))
    (c.push_rows.ensures.text (rest_of_kept c.args.rows.now old now c.args.core c.of-count.result c.args.self.now whole
    (ap is_speculative (sym c.attempt.ensures) ∙ sym c.is_speculative.ensures ∙ c.if-is_speculative.true) shows but))

pub returns-then-is_speculative-clause-shown : goal.returns-then-is_speculative-clause-shown
returns-then-is_speculative-clause-shown c old shows but =
    let now : StoreView = store_view c.args.store.now in
    let whole : c.of-count.result ≡ row_count now = omega (arith, c.of-count.ensures, c.size.ensures.size) in
    on_ok_weaker c.push_rows.result (shows_kept now c.args.core c.of-count.result c.push_rows.new.self whole)
    (c.push_rows.ensures.shown (rest_of_kept c.args.rows.now old now c.args.core c.of-count.result c.args.self.now whole
    (ap is_speculative (sym c.attempt.ensures) ∙ sym c.is_speculative.ensures ∙ c.if-is_speculative.true) shows but))

pub returns-clause-text : goal.returns-clause-text
returns-clause-text c old shows but =
    let now : StoreView = store_view c.args.store.now in
    let clear : IsClear now c.args.core = is_clear now c.args.core (ap is_speculative (sym c.attempt.ensures) ∙ sym c.is_speculative.ensures ∙ c.if-is_speculative.false) c.look.ensures in
    let whole : c.of-count.result ≡ row_count now = omega (arith, c.of-count.ensures, c.size.ensures.size) in
    c.in_ok-push_ends.ensures
    ∙ ap (λ (t : List ℕ). c.args.text.now.items ++ t) (text_of_kept old now c.args.core c.of-count.result c.args.self.now (λ _. nothing) whole but.size shows
    (λ row. sym (kept_clear now c.args.core row clear)))

pub returns-clause-shown : goal.returns-clause-shown
returns-clause-shown c old shows but =
    let now : StoreView = store_view c.args.store.now in
    shows_nothing now c.args.core c.forget.new.self c.forget.ensures
    (is_clear now c.args.core (ap is_speculative (sym c.attempt.ensures) ∙ sym c.is_speculative.ensures ∙ c.if-is_speculative.false) c.look.ensures)
