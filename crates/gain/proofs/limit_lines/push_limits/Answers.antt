use Rattle.std.proofs.Common.{◌≤◌, ℕ, List, All, ap, sym, subst, ◌∙◌}
use Rattle.gain.specs.Lines.{more_counts}
use Rattle.gain.proofs.Adds.{are_some, limits_of}
use Rattle.gain.proofs.limit_lines.push_limits.Goals as goal

pub push_each-requires : goal.push_each-requires
push_each-requires c = subst (λ (counts : List ℕ). All (λ k. 1 ≤ k) counts) (sym (c.as_slice.ensures.value ∙ c.in_ok-more.ensures)) (are_some c.count.result c.count.ensures.few.0)

pub returns : goal.returns
returns c =
    limits_of c.args.image.now c.args.cores c.as_slice.result.now c.args.text.now.items c.push_limit.new.text.items c.push_each.new.text.items c.push_each.result
    (c.as_slice.ensures.value ∙ (c.in_ok-more.ensures ∙ ap more_counts c.count.ensures.value)) c.in_ok-push_limit.ensures c.push_each.ensures
