use Rattle.std.proofs.Common.{refl}
use Rattle.cache_lines.specs.Changes.{rolled_back_line}
use Rattle.cache_lines.proofs.Places.{map_place}
use Rattle.cache_lines.proofs.stored.roll_back_lines.Goals as goal

pub loop-place-preserved : goal.loop-place-preserved
loop-place-preserved c =
    rw (c.rolled_back.ensures)
    (map_place rolled_back_line c.args.lines.now c.loop-place.lines c.loop-place.place _ _ refl c.loop-place-test.true c.loop-place.invariant)
