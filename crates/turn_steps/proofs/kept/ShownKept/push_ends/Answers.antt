use Rattle.std.proofs.Common.{◌≡◌, ◌++◌, ℕ, List, map, rules, ap, sym, ◌∙◌}
use Rattle.std.proofs.lemmas.List.{flat_map_more, map_push}
use Rattle.std.proofs.lemmas.Map.Iter.{iter_end}
use Rattle.std.specs.BTreeMap.{keys}
use Rattle.std.specs.List.{flat_map}
use Rattle.std.specs.Map.Iter.{deref}
use Rattle.turn_steps.specs.Kept.{kept_change, row_at}
use Rattle.turn_steps.specs.KeptRow.{kept_row_text, nothing}
use Rattle.turn_steps.specs.Passes.{inside}
use Rattle.turn_steps.proofs.Changes.{no_change}
use Rattle.turn_steps.proofs.Keeping.{outside_keys}
use Rattle.turn_steps.proofs.Passes.{text_of_all}
use Rattle.turn_steps.proofs.kept.ShownKept.push_ends.Goals as goal

pub loop-row-preserved : goal.loop-row-preserved
loop-row-preserved c =
    let change : ℕ → List ℕ = inside c.args.count (λ r. kept_change c.args.core (λ _. nothing) r (row_at c.args.self.now r)) in
    c.in_ok-push_end.ensures
    ∙ ap (λ t. t ++ change c.in-Some.row.now) c.loop-row.invariant
    ∙ flat_map_more change c.args.text.now.items (map deref c.loop-row.yielded) c.in-Some.row.now
    ∙ ap (λ l. c.args.text.now.items ++ flat_map change l) (sym (map_push deref c.loop-row.yielded c.in-Some.row))

pub returns : goal.returns
returns c =
    let change : ℕ → List ℕ = λ r. kept_change c.args.core (λ _. nothing) r (row_at c.args.self.now r) in
    let whole : map deref c.loop-row.yielded ≡ keys c.self.inside.rows = search (rules, iter_end) in
    c.loop-row.invariant
    ∙ ap (λ l. c.args.text.now.items ++ flat_map (inside c.args.count change) l) whole
    ∙ ap (λ t. c.args.text.now.items ++ t) (text_of_all change c.args.count (keys c.self.inside.rows) c.keys-row-items.ensures.ordered
    (λ row less outside. ap (kept_change c.args.core (λ _. nothing) row)
    (outside_keys c.self.inside.rows c.args.self.now c.keys-row-items.result c.self.view_is c.keys-row-items.ensures.rest c.keys-row-items.ensures.has row outside)
    ∙ no_change (kept_row_text c.args.core row nothing)))
