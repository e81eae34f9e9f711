use Rattle.std.proofs.Common.{◌<◌, ℕ, ap, subst, sym, ◌∙◌}
use Rattle.std.specs.Prelude.{slice_set}
use Rattle.std.proofs.lemmas.Option.{get_or_from_slice_get, slice_get_within}
use Rattle.conflict_findings.proofs.pairs.raise.Goals as goal

pub index-sum-requires : goal.index-sum-requires
index-sum-requires c = subst (λ (n : ℕ). c.args.place < n) (sym c.args.sums.now.ok.0) (slice_get_within c.args.sums.now.items c.args.place _ c.requires.2)

pub index_mut-requires : goal.index_mut-requires
index_mut-requires c = subst (λ (n : ℕ). c.args.place < n) (sym c.args.sums.now.ok.0) (slice_get_within c.args.sums.now.items c.args.place _ c.requires.2)

pub more-requires : goal.more-requires
more-requires c = (c.requires.0, c.requires.1, c.index-sum.ensures ∙ get_or_from_slice_get c.args.sums.now.items c.args.place _ _ c.requires.2, c.requires.3)

pub returns : goal.returns
returns c rs pair is has =
    ap (slice_set c.args.sums.now.items c.args.place)
    (c.more.ensures rs pair (c.index-sum.ensures ∙ get_or_from_slice_get c.args.sums.now.items c.args.place _ _ is) has)
