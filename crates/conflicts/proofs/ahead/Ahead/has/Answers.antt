use Rattle.std.proofs.Common.{nat_lt, sym, ltb-true, arith}
use Rattle.std.proofs.lemmas.Bool.{OnTrue_from}
use Rattle.conflicts.specs.Ahead.{IsFound}
use Rattle.conflicts.proofs.ahead.Ahead.has.Goals as goal

pub returns-then-stores-after : goal.returns-then-stores-after
returns-then-stores-after c = OnTrue_from (nat_lt c.args.after c.in-Some.stores.now.end) (IsFound c.args.self.now c.args.core c.args.after) (λ is. record {
  stores = c.in-Some.stores.now;
  is = sym c.in-Some.ensures.value;
  from = omega (arith, c.if-stores-after.true);
  before = ltb-true c.args.after c.in-Some.stores.now.end is;
})
