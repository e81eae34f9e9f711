use Rattle.std.proofs.Common.{ℕ, List, All, sym, subst, ◌∙◌}
use Rattle.violations.specs.Rule.{IsCoreCount}
use Rattle.gain.proofs.Adds.{are_allowed, lines_of}
use Rattle.gain.proofs.lines.push_lines.Goals as goal

pub push_each-requires-clause-counts : goal.push_each-requires-clause-counts
push_each-requires-clause-counts g c κs within =
    subst (λ (counts : List ℕ). All (λ k. IsCoreCount c.args.on.now.image.now k) counts) (sym (c.as_slice.ensures.value ∙ c.in_ok-more.ensures))
    (are_allowed c.args.on.now.image.now c.args.on.now.cores c.args.on.now.counted)

pub returns : goal.returns
returns g c =
    lines_of g.S.EpochStore.starts g.S.EpochStore.makes g.S.EpochStore.view g.S.EpochStore.waits g.S.PricedStore.prices g.S.PricedStore.keeps c.args.waiting.now c.args.on.now.image.now c.args.on.now.room c.args.on.now.cores c.args.store.now (record { first = c.in_ok-first.first; order = c.in_ok-order.order })
    c.as_slice.result.now c.args.text.now.items c.push_line.new.text.items c.push_held.new.text.items c.push_each.new.text.items c.push_each.result
    (c.as_slice.ensures.value ∙ c.in_ok-more.ensures) c.in_ok-push_line.ensures c.in_ok-first.ensures.is c.in_ok-order.ensures c.in_ok-push_held.ensures c.push_each.ensures
