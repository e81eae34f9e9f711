use Rattle.std.proofs.Common.{◌≡◌, ◌+◌, ◌%◌, ◌<◌, length, sym, ◌∙◌, arith}
use Rattle.memory_bytes.specs.Maps.{over, stored}
use Rattle.spec_history.specs.Machine.{count_of_cores, state_of}
use Rattle.spec_history.proofs.Searches.Tests.{one_passes}
use Rattle.memory_bytes.proofs.Stores.{storing_start, storing_more, storing_byte}
use Rattle.spec_history.proofs.Searches.Missing.{is_unseen, byte_is, below_start, below_more_bytes, below_all}
use Rattle.spec_history.proofs.machine.Machine.store_misses.Goals as goal

pub loop-i-init : goal.loop-i-init
loop-i-init c = record {
  storing = storing_start c.args.addr c.args.width c.args.value;
  below = below_start (count_of_cores c.args.self.now) (state_of c.args.self.now) c.args.by c.args.addr c.args.width c.args.value;
}

pub returns-then-change_is_missed : goal.returns-then-change_is_missed
returns-then-change_is_missed c =
    let count = count_of_cores c.args.self.now in
    let s = state_of c.args.self.now in
    let bytes = stored c.args.addr c.args.width c.args.value in
    let here = storing_byte c.args.addr c.args.width c.args.value c.loop-i.i c.loop-i.rest c.loop-i.invariant.storing c.loop-i-test.true in
    let is = byte_is count s c.args.by bytes (c.args.addr + c.loop-i.i) (c.loop-i.rest % 256) here in
    let within : c.args.addr + c.loop-i.i < length c.args.self.now.committed.items = omega (arith, c.requires.within, c.loop-i-test.true) in
    sym (one_passes (length c.args.self.now.committed.items) (is_unseen count s c.args.by (over bytes s.committed)) (c.args.addr + c.loop-i.i) within (is ∙ sym c.if-change_is_missed.ensures))

pub loop-i-preserved : goal.loop-i-preserved
loop-i-preserved c = record {
  storing = storing_more c.args.addr c.args.width c.args.value c.loop-i.i c.loop-i.rest c.loop-i.invariant.storing c.loop-i-test.true;
  below = below_more_bytes (count_of_cores c.args.self.now) (state_of c.args.self.now) c.args.by c.args.addr c.args.width c.args.value c.loop-i.i c.loop-i.rest
      c.loop-i.invariant.storing c.loop-i-test.true (sym c.if-change_is_missed.ensures) c.loop-i.invariant.below;
}

pub returns : goal.returns
returns c =
    let all : c.loop-i.i ≡ c.args.width = omega (arith, c.loop-i-test.false, c.loop-i.auto.i-end) in
    sym (below_all (length c.args.self.now.committed.items) (count_of_cores c.args.self.now) (state_of c.args.self.now) c.args.by c.args.addr c.args.width c.args.value c.loop-i.rest
    (rw all at c.loop-i.invariant.storing) (rw all at c.loop-i.invariant.below))
