use Rattle.std.proofs.Common.{◌≡◌, ◌+◌, ◌<◌, length, ap, ◌∙◌, refl, arith, length-set}
use Rattle.memory_bytes.specs.Shadow.{byte_in}
use Rattle.memory_bytes.proofs.Stores.{storing_start, storing_more, keeping_start, keeping_more, keeping_end}
use Rattle.memory_bytes.proofs.shadow.ShadowBytes.keep.Goals as goal

pub loop-i-init : goal.loop-i-init
loop-i-init c = record {
  long = refl;
  room = omega arith;
  storing = storing_start c.args.addr c.args.width c.args.value;
  keeping = keeping_start c.args.self.now.cells c.args.addr c.args.width c.args.value;
}

pub loop-i-preserved : goal.loop-i-preserved
loop-i-preserved c =
    let was = c.loop-i.invariant in
    let more = c.loop-i-test.true in
    let within : c.args.addr + c.loop-i.i < length c.loop-i.self.cells = omega (arith, was.long, c.requires.within, more) in record {
      long = ap length c.set.ensures.cells ∙ (length-set c.loop-i.self.cells _ _ ∙ was.long);
      room = omega (arith, was.room, c.set.ensures.room);
      storing = storing_more c.args.addr c.args.width c.args.value c.loop-i.i c.loop-i.rest was.storing more;
      keeping = rw c.set.ensures.cells
          (keeping_more (byte_in c.args.self.now.cells) c.args.addr c.args.width c.args.value c.loop-i.i c.loop-i.rest c.loop-i.self.cells was.storing more within was.keeping);
    }

pub returns-clause-kept : goal.returns-clause-kept
returns-clause-kept c =
    let was = c.loop-i.invariant in
    let all : c.loop-i.i ≡ c.args.width = omega (arith, c.loop-i-test.false, c.loop-i.auto.i-end) in
    keeping_end (byte_in c.args.self.now.cells) c.args.addr c.args.width c.args.value c.loop-i.rest c.loop-i.self.cells (rw all at was.storing) (rw all at was.keeping)
