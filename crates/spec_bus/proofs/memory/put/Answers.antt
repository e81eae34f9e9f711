use Rattle.std.proofs.Common.{arith}
use Rattle.rv32_image.proofs.Places.{place-inside}
use Rattle.spec_bus.proofs.memory.put.Goals as goal

pub index_mut-requires : goal.index_mut-requires
index_mut-requires c =
    let image = c.args.image.now in
    let inside = place-inside image.machine image.size c.args.addr c.bytes.ensures.limits.machine_allowed c.requires.within in
    omega (arith, inside, c.requires.long, c.place-place.ensures.place)
