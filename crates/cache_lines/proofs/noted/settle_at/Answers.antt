use Rattle.std.proofs.Common.{true, arith}
use Rattle.cache_lines.specs.Changes.{published_line}
use Rattle.cache_lines.proofs.Plain.{MakesPlain-published}
use Rattle.cache_lines.proofs.Walks.{walk_start, walk_more, walk_end}
use Rattle.cache_lines.proofs.noted.settle_at.Goals as goal

pub loop-place-init : goal.loop-place-init
loop-place-init c = walk_start (published_line true) c.args.lines.now c.args.places.now c.requires.marked

pub loop-place-preserved : goal.loop-place-preserved
loop-place-preserved c =
    rw c.published.ensures
    (walk_more (published_line true) MakesPlain-published c.args.lines.now c.loop-place.lines c.args.places.now c.loop-place.place-index _
    (omega (arith, c.requires.within c.loop-place.place-index 0 c.loop-place-test.true, c.loop-place.invariant.size)) c.loop-place.invariant)

pub returns : goal.returns
returns c =
    walk_end (published_line true) MakesPlain-published c.args.lines.now c.loop-place.lines c.args.places.now c.loop-place.place-index
    c.loop-place-test.false c.loop-place.invariant
