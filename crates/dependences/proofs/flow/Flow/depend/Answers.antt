use Rattle.dependences.proofs.Nearing.{now_nearest, still_of}
use Rattle.dependences.proofs.flow.Flow.depend.Goals.{then-is_nearer, else-is_nearer}
use Rattle.dependences.proofs.flow.Flow.depend.Goals as goal

pub returns-then-is_err-clause-later : goal.returns-then-is_err-clause-later
returns-then-is_err-clause-later g c list near = elim c.if-is_nearer.branch [
  | then-is_nearer w ↦ rw (w.self-is, ← c.dependence-one.ensures) (now_nearest list c.dependence-one.result _ _ (c.is_nearer.ensures.nearer w.if-is_nearer.true) near)
  | else-is_nearer w ↦ rw (w.self-is, ← c.dependence-one.ensures) (still_of list c.dependence-one.result _ _ (c.is_nearer.ensures.no w.if-is_nearer.false) near)
]

pub returns-else-is_err-clause-later : goal.returns-else-is_err-clause-later
returns-else-is_err-clause-later g c list near = elim c.if-is_nearer.branch [
  | then-is_nearer w ↦ rw (w.self-is, ← c.dependence-one.ensures) (now_nearest list c.dependence-one.result _ _ (c.is_nearer.ensures.nearer w.if-is_nearer.true) near)
  | else-is_nearer w ↦ rw (w.self-is, ← c.dependence-one.ensures) (still_of list c.dependence-one.result _ _ (c.is_nearer.ensures.no w.if-is_nearer.false) near)
]
