use Rattle.std.proofs.Common.{◌∙◌, inr, sym, true≢false}
use Rattle.std.specs.List.{list_any}
use Rattle.turn_steps.specs.Laws.{stores_in}
use Rattle.turn_steps.proofs.Outside.{added_in, same_memory}
use Rattle.turn_steps.proofs.loop_shown.changed_rows.Goals as goal

pub returns-then-has_commit : goal.returns-then-has_commit
returns-then-has_commit g c = λ old now shows shape keeps. record {
  shape = shape;
  same = same_memory (g.S.EpochStore.view old) now c.args.core c.args.added.now c.push_own_rows.new.rows keeps
      (λ row is. c.in_ok-push_own_rows.ensures.kept row (added_in c.new-rows.result c.add_stored_rows.new.rows (λ r. list_any (stores_in r) c.args.added.now) row c.in_ok-add_stored_rows.ensures (inr is)))
      (λ _ a below own. c.in_ok-push_own_rows.ensures.own old shows a below own);
}

pub returns : goal.returns
returns g c = λ old now shows shape keeps. record {
  shape = shape;
  same = same_memory (g.S.EpochStore.view old) now c.args.core c.args.added.now c.add_stored_rows.new.rows keeps
      (λ row is. added_in c.new-rows.result c.add_stored_rows.new.rows (λ r. list_any (stores_in r) c.args.added.now) row c.in_ok-add_stored_rows.ensures (inr is))
      (λ is. absurd (true≢false (sym is ∙ (sym c.has_commit.ensures ∙ c.if-has_commit.false))));
}
