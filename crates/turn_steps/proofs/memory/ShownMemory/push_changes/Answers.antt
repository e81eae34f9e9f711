use Rattle.std.proofs.Common.{◌≡◌, ◌++◌, ◌∷◌, [], ◌<◌, ℕ, List, length, map, ap, subst, sym, ◌∙◌, false}
use Rattle.std.proofs.lemmas.List.{map_push}
use Rattle.std.proofs.lemmas.Map.Iter.{iter_end, rest_more, rest_so_far}
use Rattle.std.specs.List.{flat_map}
use Rattle.std.specs.Map.Iter.{deref}
use Rattle.turn_steps.specs.Memory.{at_change, row_of, shown_row}
use Rattle.violations.specs.View.{StoreView}
use Rattle.turn_steps.specs.Passes.{IsRestShown, inside}
use Rattle.turn_steps.specs.Rows.{at_text}
use Rattle.turn_steps.proofs.Changes.{no_change}
use Rattle.turn_steps.proofs.Passes.{all_shown, among, is_next, more_shown, more_text, passed, text_of_all}
use Rattle.turn_steps.proofs.Shown.{rest_of_memory, shows_memory, text_of_memory}
use Rattle.turn_steps.proofs.memory.ShownMemory.push_changes.Goals as goal

pub loop-row-preserved : goal.loop-row-preserved
loop-row-preserved g c =
    let count : ℕ = length c.args.self.now in
    let ys : List ℕ = map deref c.loop-row.yielded in
    let x : ℕ = c.in-Some.row.now in
    let committed : ℕ → ℕ = (g.S.EpochStore.view c.args.store.now).committed in
    let start : ℕ → List ℕ = shown_row c.args.self.now in
    let at : ℕ → List ℕ = shown_row c.loop-row.self in
    let next : ℕ → List ℕ = shown_row c.push_row.new.self in
    let split : c.into_iter-row-iterator.result ≡ ys ++ c.loop-row.row-iterator
    = rest_so_far deref c.loop-row.yielded c.into_iter-row-iterator.result c.loop-row.row-iterator c.loop-row.yielded_by in
    let head : c.loop-row.row-iterator ≡ x ∷ c.next.new.self
    = rest_more deref c.loop-row.row-iterator c.next.new.self c.next.result c.in-Some.row c.in-Some.is c.next.ensures.steps in
    let unseen : among ys x ≡ false = is_next c.args.rows.now.keys ys x c.into_iter-row-iterator.result c.loop-row.row-iterator c.next.new.self
    c.into_iter-row-iterator.ensures.into_iter_gives.4 c.into_iter-row-iterator.ensures.into_iter_gives.0 split head in
    let long : length c.loop-row.self ≡ count = c.loop-row.invariant.long in
    let more : c.push_row.new.text.items ≡ c.loop-row.text.items ++ inside count (λ r. at_change committed r (at r)) x
    = c.in_ok-push_row.ensures.text ∙ ap (λ n. c.loop-row.text.items ++ inside n (λ r. at_change committed r (at r)) x) long in
    let items : map deref (c.loop-row.yielded ++ c.in-Some.row ∷ []) ≡ ys ++ x ∷ [] = map_push deref c.loop-row.yielded c.in-Some.row in
    record {
      long = c.in_ok-push_row.ensures.long ∙ long;
      text = subst (λ l. c.push_row.new.text.items ≡ c.args.text.now.items ++ flat_map (inside count (λ r. at_change committed r (start r))) l) (sym items)
          (more_text (at_change committed) (row_of committed) start at count ys x c.args.text.now.items c.loop-row.text.items c.push_row.new.text.items
          unseen c.loop-row.invariant.shown c.loop-row.invariant.text more);
      shown = λ r less. subst (λ l. next r ≡ passed l (row_of committed) start r) (sym items)
          (more_shown (row_of committed) start at next count ys x c.loop-row.invariant.shown
          (λ below. c.in_ok-push_row.ensures.row (subst (λ n. x < n) (sym long) below)) c.in_ok-push_row.ensures.others r less);
    }

pub returns-clause-text : goal.returns-clause-text
returns-clause-text g c old shows but =
    let count : ℕ = length c.args.self.now in
    let now : StoreView = g.S.EpochStore.view c.args.store.now in
    let committed : ℕ → ℕ = now.committed in
    let change : ℕ → List ℕ = λ r. at_change committed r (shown_row c.args.self.now r) in
    let rest : IsRestShown c.args.rows.now count (shown_row c.args.self.now) (row_of committed) = rest_of_memory c.args.rows.now old now c.args.self.now shows but in
    let whole : map deref c.loop-row.yielded ≡ c.args.rows.now.keys
    = (iter_end deref c.args.rows.now.keys c.loop-row.yielded c.into_iter-row-iterator.result c.loop-row.row-iterator c.next.new.self c.next.result
    c.into_iter-row-iterator.ensures.into_iter_gives.0 c.loop-row.yielded_by c.in-None.is c.next.ensures.steps).0 in
    c.loop-row.invariant.text
    ∙ ap (λ l. c.args.text.now.items ++ flat_map (inside count change) l) whole
    ∙ ap (λ t. c.args.text.now.items ++ t) (text_of_all change count c.args.rows.now.keys c.into_iter-row-iterator.ensures.into_iter_gives.4
    (λ row less outside. ap (at_change committed row) (rest row less outside) ∙ no_change (at_text row (row_of committed row)))
    ∙ text_of_memory old now c.args.self.now shows)

pub returns-clause-shown : goal.returns-clause-shown
returns-clause-shown g c old shows but =
    let count : ℕ = length c.args.self.now in
    let now : StoreView = g.S.EpochStore.view c.args.store.now in
    let committed : ℕ → ℕ = now.committed in
    let rest : IsRestShown c.args.rows.now count (shown_row c.args.self.now) (row_of committed) = rest_of_memory c.args.rows.now old now c.args.self.now shows but in
    let whole : map deref c.loop-row.yielded ≡ c.args.rows.now.keys
    = (iter_end deref c.args.rows.now.keys c.loop-row.yielded c.into_iter-row-iterator.result c.loop-row.row-iterator c.next.new.self c.next.result
    c.into_iter-row-iterator.ensures.into_iter_gives.0 c.loop-row.yielded_by c.in-None.is c.next.ensures.steps).0 in
    shows_memory now count c.loop-row.self c.loop-row.invariant.long c.requires.size
    (all_shown (row_of committed) (shown_row c.args.self.now) (shown_row c.loop-row.self) count c.args.rows.now.keys
    (subst (λ l. (r : ℕ) → r < count → shown_row c.loop-row.self r ≡ passed l (row_of committed) (shown_row c.args.self.now) r) whole c.loop-row.invariant.shown)
    rest)
