use Rattle.std.proofs.Common.{arith}
use Rattle.cache_lines.proofs.ListLaws.{unlist_more, unlist_end}
use Rattle.cache_lines.proofs.noted.unlist.Goals as goal

pub loop-place-preserved : goal.loop-place-preserved
loop-place-preserved c =
    let within = rw (← c.deref-place-items.ensures.value) at c.requires.within in
    unlist_more c.args.listed.now c.loop-place.listed c.deref-place-items.result.now c.loop-place.place-index
    (omega (arith, within c.loop-place.place-index 0 c.loop-place-test.true, c.loop-place.invariant.size)) c.loop-place.invariant

pub returns-clause-list : goal.returns-clause-list
returns-clause-list c =
    rw c.clear.ensures.items
    (unlist_end c.args.listed.now c.loop-place.listed c.deref-place-items.result.now c.loop-place.place-index c.loop-place-test.false c.loop-place.invariant)
