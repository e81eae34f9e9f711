use Rattle.std.proofs.Common.{◌≡◌, ◌++◌, ◌∷◌, [], ◌<◌, ℕ, List, map, ap, subst, sym, ◌∙◌, false}
use Rattle.std.proofs.lemmas.List.{map_push}
use Rattle.std.proofs.lemmas.Map.Iter.{iter_end, rest_more, rest_so_far}
use Rattle.std.specs.List.{flat_map}
use Rattle.std.specs.Map.Iter.{deref}
use Rattle.violations.specs.Plain.{store_view}
use Rattle.turn_steps.specs.declared.kept_row.KeptRow.{KeptRow}
use Rattle.turn_steps.specs.Kept.{kept_change, row_at}
use Rattle.turn_steps.specs.KeptRow.{kept_of, kept_row_text}
use Rattle.turn_steps.specs.Passes.{inside}
use Rattle.turn_steps.proofs.Changes.{no_change}
use Rattle.turn_steps.proofs.Passes.{all_shown, among, is_next, more_shown, more_text, passed, text_of_all}
use Rattle.turn_steps.proofs.kept.ShownKept.push_rows.Goals as goal

pub loop-row-preserved : goal.loop-row-preserved
loop-row-preserved c =
    let count : ℕ = c.args.count in
    let ys : List ℕ = map deref c.loop-row.yielded in
    let x : ℕ = c.in-Some.row.now in
    let now : ℕ → KeptRow = kept_of (store_view c.args.store.now) c.args.core in
    let start : ℕ → KeptRow = row_at c.args.self.now in
    let at : ℕ → KeptRow = row_at c.loop-row.self in
    let next : ℕ → KeptRow = row_at c.push_row.new.self in
    let split : c.into_iter-row-iterator.result ≡ ys ++ c.loop-row.row-iterator
    = rest_so_far deref c.loop-row.yielded c.into_iter-row-iterator.result c.loop-row.row-iterator c.loop-row.yielded_by in
    let head : c.loop-row.row-iterator ≡ x ∷ c.next.new.self
    = rest_more deref c.loop-row.row-iterator c.next.new.self c.next.result c.in-Some.row c.in-Some.is c.next.ensures.steps in
    let unseen : among ys x ≡ false = is_next c.args.rows.now.keys ys x c.into_iter-row-iterator.result c.loop-row.row-iterator c.next.new.self
    c.into_iter-row-iterator.ensures.into_iter_gives.4 c.into_iter-row-iterator.ensures.into_iter_gives.0 split head in
    let more : c.push_row.new.text.items ≡ c.loop-row.text.items ++ inside count (λ r. kept_change c.args.core now r (at r)) x = c.in_ok-push_row.ensures.text in
    let items : map deref (c.loop-row.yielded ++ c.in-Some.row ∷ []) ≡ ys ++ x ∷ [] = map_push deref c.loop-row.yielded c.in-Some.row in
    record {
      text = subst (λ l. c.push_row.new.text.items ≡ c.args.text.now.items ++ flat_map (inside count (λ r. kept_change c.args.core now r (start r))) l) (sym items)
          (more_text (kept_change c.args.core now) now start at count ys x c.args.text.now.items c.loop-row.text.items c.push_row.new.text.items
          unseen c.loop-row.invariant.shown c.loop-row.invariant.text more);
      shown = λ r less. subst (λ l. next r ≡ passed l now start r) (sym items)
          (more_shown now start at next count ys x c.loop-row.invariant.shown
          c.in_ok-push_row.ensures.row c.in_ok-push_row.ensures.others r less);
    }

pub returns-clause-text : goal.returns-clause-text
returns-clause-text c rest =
    let count : ℕ = c.args.count in
    let now : ℕ → KeptRow = kept_of (store_view c.args.store.now) c.args.core in
    let change : ℕ → List ℕ = λ r. kept_change c.args.core now r (row_at c.args.self.now r) in
    let whole : map deref c.loop-row.yielded ≡ c.args.rows.now.keys
    = (iter_end deref c.args.rows.now.keys c.loop-row.yielded c.into_iter-row-iterator.result c.loop-row.row-iterator c.next.new.self c.next.result
    c.into_iter-row-iterator.ensures.into_iter_gives.0 c.loop-row.yielded_by c.in-None.is c.next.ensures.steps).0 in
    c.loop-row.invariant.text
    ∙ ap (λ l. c.args.text.now.items ++ flat_map (inside count change) l) whole
    ∙ ap (λ t. c.args.text.now.items ++ t) (text_of_all change count c.args.rows.now.keys c.into_iter-row-iterator.ensures.into_iter_gives.4
    (λ row less outside. ap (kept_change c.args.core now row) (rest row less outside) ∙ no_change (kept_row_text c.args.core row (now row))))

pub returns-clause-shown : goal.returns-clause-shown
returns-clause-shown c rest =
    let count : ℕ = c.args.count in
    let now : ℕ → KeptRow = kept_of (store_view c.args.store.now) c.args.core in
    let whole : map deref c.loop-row.yielded ≡ c.args.rows.now.keys
    = (iter_end deref c.args.rows.now.keys c.loop-row.yielded c.into_iter-row-iterator.result c.loop-row.row-iterator c.next.new.self c.next.result
    c.into_iter-row-iterator.ensures.into_iter_gives.0 c.loop-row.yielded_by c.in-None.is c.next.ensures.steps).0 in
    all_shown now (row_at c.args.self.now) (row_at c.loop-row.self) count c.args.rows.now.keys
    (subst (λ l. (r : ℕ) → r < count → row_at c.loop-row.self r ≡ passed l now (row_at c.args.self.now) r) whole c.loop-row.invariant.shown)
    rest
