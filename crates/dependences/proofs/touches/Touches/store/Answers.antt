use Rattle.dependences.proofs.Buffering.{inside_at}
use Rattle.dependences.proofs.touches.Touches.store.Goals as goal

pub store_in-requires : goal.store_in-requires
store_in-requires c = record {
  inside = inside_at c.args.image.now c.args.epoch c.args.line c.args.self.now c.machine-limit.ensures.limits c.requires.long c.requires.epoch c.requires.within;
}
