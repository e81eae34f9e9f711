use Rattle.std.proofs.Common.{arith}
use Rattle.conflicts.proofs.Storing.{extended, filled_more, none_filled}
use Rattle.conflicts.proofs.ahead.push_stored.Goals as goal

pub loop-addr-init : goal.loop-addr-init
loop-addr-init c = none_filled _ _ _ _ _

pub loop-addr-preserved : goal.loop-addr-preserved
loop-addr-preserved c = rw c.in_ok-push.ensures.items
    (filled_more _ _ _ _ c.loop-addr.addr _ _ (c.stored_at-first.ensures.only c.loop-addr.addr (omega arith) (omega (arith, c.loop-addr-test.true))) c.loop-addr.invariant)

pub returns : goal.returns
returns c = extended _ _ _ _ _ c.stored_at-first.result.1 c.loop-addr.addr _ _ (omega (arith, c.loop-addr-test.false)) c.stored_at-first.ensures.each c.loop-addr.invariant
