use Rattle.std.proofs.Common.{slice_index, ap, ◌∙◌}
use Rattle.dependences.proofs.Marking.{filled_at}
use Rattle.dependences.proofs.marks.Marks.none.Goals as goal

pub returns-clause-none : goal.returns-clause-none
returns-clause-none c a = filled_at c.in_ok-numbers.numbers.items c.args.size a ∙ ap (λ l. slice_index l a) c.in_ok-numbers.ensures.items
