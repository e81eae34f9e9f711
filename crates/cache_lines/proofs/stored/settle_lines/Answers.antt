use Rattle.std.proofs.Common.{true, refl}
use Rattle.cache_lines.specs.Changes.{published_line}
use Rattle.cache_lines.proofs.Places.{map_place}
use Rattle.cache_lines.proofs.stored.settle_lines.Goals as goal

pub loop-place-preserved : goal.loop-place-preserved
loop-place-preserved c =
    rw (c.published.ensures)
    (map_place (published_line true) c.args.lines.now c.loop-place.lines c.loop-place.place _ _ refl c.loop-place-test.true c.loop-place.invariant)
