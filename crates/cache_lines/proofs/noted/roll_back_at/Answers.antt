use Rattle.std.proofs.Common.{arith}
use Rattle.cache_lines.specs.Changes.{rolled_back_line}
use Rattle.cache_lines.proofs.Plain.{MakesPlain-rolled_back}
use Rattle.cache_lines.proofs.Walks.{walk_start, walk_more, walk_end}
use Rattle.cache_lines.proofs.noted.roll_back_at.Goals as goal

pub loop-place-init : goal.loop-place-init
loop-place-init c = walk_start rolled_back_line c.args.lines.now c.args.places.now c.requires.marked

pub loop-place-preserved : goal.loop-place-preserved
loop-place-preserved c =
    rw c.rolled_back.ensures
    (walk_more rolled_back_line MakesPlain-rolled_back c.args.lines.now c.loop-place.lines c.args.places.now c.loop-place.place-index _
    (omega (arith, c.requires.within c.loop-place.place-index 0 c.loop-place-test.true, c.loop-place.invariant.size)) c.loop-place.invariant)

pub returns : goal.returns
returns c =
    walk_end rolled_back_line MakesPlain-rolled_back c.args.lines.now c.loop-place.lines c.args.places.now c.loop-place.place-index
    c.loop-place-test.false c.loop-place.invariant
