use Rattle.std.proofs.Common.{rules}
use Rattle.std.proofs.lemmas.List.Sorted.{answers_always}
use Rattle.depends.proofs.rows.order.Goals as goal

pub returns-clause-ordered : goal.returns-clause-ordered
returns-clause-ordered c =
    c.sort_unstable_by_key.ensures.sorted (λ r. (record { 0 = r.1.times }, r.0.0, r.0.1)) (answers_always _ _ _ (λ f a r g h. search rules))
