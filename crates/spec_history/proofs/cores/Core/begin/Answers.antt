use Rattle.std.proofs.Common.{Some, false, ◌∙◌}
use Rattle.spec_history.proofs.cores.Core.begin.Goals as goal

pub returns-clause-core : goal.returns-clause-core
returns-clause-core c = λ i. Some (record {
  epoch = c.args.epoch;
  hart = (c.advance.ensures.base ∙ c.start.ensures) i;
  own = λ a. c.forget.ensures.own a i;
  outside = λ a. c.forget.ensures.outside a i;
  straight = false;
  hurt = false;
})
