use Rattle.std.proofs.Common.{◌≡◌, ◌||◌, ◌&&◌, map, rules, ap, subst, sym, ◌∙◌}
use Rattle.std.proofs.lemmas.List.{map_push}
use Rattle.std.proofs.lemmas.Map.Iter.{iter_end}
use Rattle.std.specs.BTreeMap.{keys}
use Rattle.std.specs.BTreeSet.{contains}
use Rattle.std.specs.Map.Iter.{deref}
use Rattle.std.specs.Ordering.{nat_cmp}
use Rattle.turn_steps.specs.Kept.{row_at}
use Rattle.turn_steps.proofs.Keeping.{outside_keys}
use Rattle.turn_steps.proofs.Owning.{all_owned, is_owned, isnt_owned, more_owned, none_owned, owned_at}
use Rattle.turn_steps.proofs.Passes.{among}
use Rattle.turn_steps.proofs.kept.ShownKept.push_owned.Goals as goal

pub loop-row-preserved-in_ok-insert : goal.loop-row-preserved-in_ok-insert
loop-row-preserved-in_ok-insert c r =
    subst (λ l. contains nat_cmp c.insert.new.self r ≡ (contains nat_cmp c.args.rows.now r || (among l r && owned_at c.args.self.now r)))
    (sym (map_push deref c.loop-row.yielded c.in-Some.row))
    (more_owned (owned_at c.args.self.now) (map deref c.loop-row.yielded) c.in-Some.row.now (contains nat_cmp c.args.rows.now) (contains nat_cmp c.loop-row.rows)
    (contains nat_cmp c.insert.new.self) c.loop-row.invariant (is_owned c.args.self.now c.in-Some.row.now c.row.result c.row.ensures c.if-row-ne0.true)
    c.in_ok-insert.ensures.updates.1 c.in_ok-insert.ensures.updates.2 r)

pub loop-row-preserved : goal.loop-row-preserved
loop-row-preserved c r =
    subst (λ l. contains nat_cmp c.loop-row.rows r ≡ (contains nat_cmp c.args.rows.now r || (among l r && owned_at c.args.self.now r)))
    (sym (map_push deref c.loop-row.yielded c.in-Some.row))
    (none_owned (owned_at c.args.self.now) (map deref c.loop-row.yielded) c.in-Some.row.now (contains nat_cmp c.args.rows.now) (contains nat_cmp c.loop-row.rows)
    c.loop-row.invariant (isnt_owned c.args.self.now c.in-Some.row.now c.row.result c.row.ensures c.if-row-ne0.false) r)

pub returns : goal.returns
returns c r =
    let whole : map deref c.loop-row.yielded ≡ keys c.self.inside.rows = search (rules, iter_end) in
    c.loop-row.invariant r
    ∙ ap (λ l. contains nat_cmp c.args.rows.now r || (among l r && owned_at c.args.self.now r)) whole
    ∙ ap (λ b. contains nat_cmp c.args.rows.now r || b) (all_owned (among (keys c.self.inside.rows) r) (row_at c.args.self.now r)
    (outside_keys c.self.inside.rows c.args.self.now c.keys-row-items.result c.self.view_is c.keys-row-items.ensures.rest c.keys-row-items.ensures.has r))
