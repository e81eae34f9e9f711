use Rattle.std.proofs.Common.{◌∙◌, ap, refl}
use Rattle.conflict_findings.specs.declared.pair_sums.PairSum.{PairSum}
use Rattle.conflict_findings.specs.declared.part.Part.TheVariants.{OfPair}
use Rattle.conflict_findings.specs.PairSums.{joined, of_pair}
use Rattle.conflict_findings.proofs.Pairing.{pair_more}
use Rattle.conflict_findings.proofs.Pushing.{part_fits, room_of}
use Rattle.conflict_findings.proofs.pair_sums.PairSum.more.Goals as goal

pub more-requires-clause-count : goal.more-requires-clause-count
more-requires-clause-count c = (part_fits (OfPair c.requires.1) c.requires.0 c.args.rollback.now.lost c.args.self.sum c.requires.3 (ap (λ (x : PairSum). x.sum) c.requires.2)).0

pub more-requires-clause-lost : goal.more-requires-clause-lost
more-requires-clause-lost c = (part_fits (OfPair c.requires.1) c.requires.0 c.args.rollback.now.lost c.args.self.sum c.requires.3 (ap (λ (x : PairSum). x.sum) c.requires.2)).1

pub more-requires-2 : goal.more-requires-2
more-requires-2 c =
    (of_pair c.requires.1 c.requires.0, ap (λ (x : PairSum). x.counts) c.requires.2, room_of (OfPair c.requires.1) c.requires.0 c.args.rollback.now.lost c.requires.3)

pub more-requires-3 : goal.more-requires-3
more-requires-3 c =
    (of_pair c.requires.1 c.requires.0, ap (λ (x : PairSum). x.fates) c.requires.2, room_of (OfPair c.requires.1) c.requires.0 c.args.rollback.now.lost c.requires.3)

pub returns : goal.returns
returns c rs pair is has =
    pair_more pair _ rs c.args.rollback.now c.args.self _ _ _ _ _ is has refl c.more.ensures
    (c.more-2.ensures (of_pair pair rs) (ap (λ (x : PairSum). x.counts) is))
    (c.more-3.ensures (of_pair pair rs) (ap (λ (x : PairSum). x.fates) is))
    (c.joined.ensures ∙ ap (joined c.args.self.distance) c.of.ensures)
    (c.joined-2.ensures ∙ ap (joined c.args.self.bytes) c.of-2.ensures)
