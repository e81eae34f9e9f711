use Rattle.std.proofs.Common.{rules}
use Rattle.std.proofs.lemmas.List.Sorted.{answers_always}
use Rattle.conflict_findings.proofs.attempts.order_attempts.Goals as goal

pub returns-clause-ordered : goal.returns-clause-ordered
returns-clause-ordered c = c.sort_unstable_by_key.ensures.sorted (λ a. a.began) (answers_always _ _ _ (λ f a r g h. search rules))
