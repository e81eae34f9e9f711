use Rattle.limits.proofs.limit.limits_in_order.Goals as goal

pub returns-clause-forward : goal.returns-clause-forward
returns-clause-forward c = c.in_ok-forward.ensures

pub returns-clause-commit : goal.returns-clause-commit
returns-clause-commit c = c.in_ok-commit.ensures
