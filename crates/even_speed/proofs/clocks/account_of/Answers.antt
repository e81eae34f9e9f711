use Rattle.std.proofs.Common.{◌≡◌, ℕ, ◌*◌, ap, sym, ◌∙◌, arith}
use Rattle.even_speed.specs.Account.{steps_of}
use Rattle.even_speed.specs.Clocks.{clock_at}
use Rattle.even_speed.proofs.Sounding.{account_more, account_of-none, whole_more}
use Rattle.even_speed.proofs.clocks.account_of.Goals as goal

none_of : (end : ℕ) → 0 ≡ 0 * end
none_of end = omega arith

pub loop-core-init : goal.loop-core-init
loop-core-init c = record {
  is = c.no_steps-sum.ensures ∙ sym (account_of-none c.args.end (clock_at c.args.clocks.now.items));
  whole = ap steps_of c.no_steps-sum.ensures ∙ none_of c.args.end;
}

pub loop-core-preserved : goal.loop-core-preserved
loop-core-preserved c = record {
  is = account_more c.args.end c.loop-core.core (clock_at c.args.clocks.now.items) c.loop-core.sum c.closed.result c.with-sum.result c.clock_of.result
      c.loop-core.invariant.is c.clock_of.ensures c.closed.ensures.is c.with-sum.ensures;
  whole = whole_more c.args.end c.loop-core.core c.loop-core.sum c.closed.result c.with-sum.result c.loop-core.invariant.whole c.closed.ensures.whole c.with-sum.ensures;
}
