use Rattle.std.proofs.Common.{◌≡◌, ap, refl}
use Rattle.conflict_findings.specs.declared.kinds.SumsByKind.{SumsByKind}
use Rattle.conflict_findings.specs.declared.sum.Sum.{Sum}
use Rattle.conflict_findings.proofs.kinds.SumsByKind.more.Goals as goal

abbrev sums : Sum → Sum → Sum → Sum → Sum → SumsByKind
sums a b c d e = record { true_sharing = a; silent_store = b; false_sharing = c; full_buffer = d; unexplained = e }

same_sums : (a b c d e a' b' c' d' e' : Sum) → a ≡ a' → b ≡ b' → c ≡ c' → d ≡ d' → e ≡ e' → sums a b c d e ≡ sums a' b' c' d' e'
same_sums a b c d e a' b' c' d' e' one two three four five = rw (one, two, three, four, five) refl

pub sum_more-requires : goal.sum_more-requires
sum_more-requires c = (c.requires.0, ap (λ (k : SumsByKind). k.true_sharing) c.requires.1, c.requires.2)

pub sum_more-requires-2 : goal.sum_more-requires-2
sum_more-requires-2 c = (c.requires.0, ap (λ (k : SumsByKind). k.silent_store) c.requires.1, c.requires.2)

pub sum_more-requires-3 : goal.sum_more-requires-3
sum_more-requires-3 c = (c.requires.0, ap (λ (k : SumsByKind). k.false_sharing) c.requires.1, c.requires.2)

pub sum_more-requires-4 : goal.sum_more-requires-4
sum_more-requires-4 c = (c.requires.0, ap (λ (k : SumsByKind). k.full_buffer) c.requires.1, c.requires.2)

pub sum_more-requires-5 : goal.sum_more-requires-5
sum_more-requires-5 c = (c.requires.0, ap (λ (k : SumsByKind). k.unexplained) c.requires.1, c.requires.2)

pub returns : goal.returns
returns c rs is =
    same_sums _ _ _ _ _ _ _ _ _ _
    (c.sum_more.ensures rs (ap (λ (k : SumsByKind). k.true_sharing) is))
    (c.sum_more-2.ensures rs (ap (λ (k : SumsByKind). k.silent_store) is))
    (c.sum_more-3.ensures rs (ap (λ (k : SumsByKind). k.false_sharing) is))
    (c.sum_more-4.ensures rs (ap (λ (k : SumsByKind). k.full_buffer) is))
    (c.sum_more-5.ensures rs (ap (λ (k : SumsByKind). k.unexplained) is))
