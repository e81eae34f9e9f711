use Rattle.std.proofs.Common.{ap}
use Rattle.conflict_findings.specs.declared.kinds.CountsByKind.{CountsByKind}
use Rattle.conflict_findings.proofs.Counting.{same_counts}
use Rattle.conflict_findings.proofs.kinds.CountsByKind.more.Goals as goal

pub count_more-requires : goal.count_more-requires
count_more-requires c = (c.requires.0, ap (λ (k : CountsByKind). k.true_sharing) c.requires.1, c.requires.2)

pub count_more-requires-2 : goal.count_more-requires-2
count_more-requires-2 c = (c.requires.0, ap (λ (k : CountsByKind). k.silent_store) c.requires.1, c.requires.2)

pub count_more-requires-3 : goal.count_more-requires-3
count_more-requires-3 c = (c.requires.0, ap (λ (k : CountsByKind). k.false_sharing) c.requires.1, c.requires.2)

pub count_more-requires-4 : goal.count_more-requires-4
count_more-requires-4 c = (c.requires.0, ap (λ (k : CountsByKind). k.full_buffer) c.requires.1, c.requires.2)

pub returns : goal.returns
returns c rs is =
    same_counts _ _ _ _ _ _ _ _
    (c.count_more.ensures rs (ap (λ (k : CountsByKind). k.true_sharing) is))
    (c.count_more-2.ensures rs (ap (λ (k : CountsByKind). k.silent_store) is))
    (c.count_more-3.ensures rs (ap (λ (k : CountsByKind). k.false_sharing) is))
    (c.count_more-4.ensures rs (ap (λ (k : CountsByKind). k.full_buffer) is))
