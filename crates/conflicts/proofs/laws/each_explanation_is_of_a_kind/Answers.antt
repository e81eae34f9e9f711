use Rattle.conflicts.proofs.Explaining.{is_of_a_kind}
use Rattle.conflicts.proofs.laws.each_explanation_is_of_a_kind.Goals as goal

pub returns : goal.returns
returns c image cores entries e known is = is_of_a_kind image cores entries e known is
