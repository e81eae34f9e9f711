use Rattle.std.proofs.Common.{ℕ, Bool, [], ◌∷◌, ◌++◌, ap, ap₂, cond, ◌∙◌, Some}
use Rattle.std.specs.BTreeMap.{get}
use Rattle.conflict_findings.specs.declared.pair_sums.PairSum.{PairSum}
use Rattle.conflict_findings.specs.ByPair.{by_addresses}
use Rattle.conflict_findings.proofs.Grouping.{at_pair, flip_pair}
use Rattle.conflict_findings.proofs.Pairing.{own_has}
use Rattle.conflict_findings.proofs.pairs.SumsByPair.begin.Goals as goal

pub more-requires : goal.more-requires
more-requires c = ([], c.args.pair, c.none.ensures, c.requires.room)

pub returns-clause-sums : goal.returns-clause-sums
returns-clause-sums c =
    c.in_ok-push.ensures.items
    ∙ ap (λ (x : PairSum). c.args.self.now.sums.items ++ x ∷ []) (c.more.ensures [] c.args.pair c.none.ensures (own_has c.args.rollback.now.pair c.args.pair c.requires.pair))

pub returns-clause-places : goal.returns-clause-places
returns-clause-places c p =
    c.in_ok-insert.ensures.updates.0 (p.store, p.load)
    ∙ ap₂ (λ (b : Bool) (n : ℕ). cond b (Some n) (get by_addresses c.args.self.now.places (p.store, p.load))) (at_pair c.args.pair p ∙ flip_pair c.args.pair p) (c.len-place.ensures ∙ c.args.self.now.sums.ok.0)
