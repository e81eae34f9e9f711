use Rattle.std.proofs.Common.{ℕ, List, All, ap, sym, subst, ◌∙◌}
use Rattle.violations.specs.Rule.{IsCoreCount}
use Rattle.gain.specs.Lines.{more_counts}
use Rattle.gain.proofs.Adds.{are_allowed}
use Rattle.gain.proofs.Evens.{evens_of}
use Rattle.gain.proofs.even_lines.push_evens.Goals as goal

pub push_each-requires-clause-counts : goal.push_each-requires-clause-counts
push_each-requires-clause-counts g c κs within =
    subst (λ (counts : List ℕ). All (λ k. IsCoreCount c.args.asked.now.image.now k) counts) (sym (c.as_slice.ensures.value ∙ (c.in_ok-more.ensures ∙ ap more_counts c.count.ensures.value)))
    (are_allowed c.args.asked.now.image.now c.args.asked.now.study.now.cores c.args.asked.now.counted)

pub returns : goal.returns
returns g c =
    evens_of g.S.EpochStore.starts g.S.EpochStore.makes g.S.EpochStore.view g.S.EpochStore.waits g.S.PricedStore.prices g.S.PricedStore.keeps c.args.asked.now.addresses.now c.args.asked.now.study.now c.args.asked.now.image.now c.args.store.now
    c.as_slice.result.now c.args.text.now.items c.push_even.new.text.items c.push_each.new.text.items c.push_each.result
    (c.as_slice.ensures.value ∙ (c.in_ok-more.ensures ∙ ap more_counts c.count.ensures.value)) c.in_ok-push_even.ensures c.push_each.ensures
