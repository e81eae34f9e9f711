use Rattle.std.proofs.Common.{◌≡◌, ◌<◌, length, slice_index, sym, ◌∙◌, arith}
use Rattle.memory_bytes.specs.Maps.{over}
use Rattle.memory_bytes.specs.Shadow.{byte_in}
use Rattle.spec_history.specs.Machine.{count_of_cores, state_of}
use Rattle.spec_history.proofs.Searches.Tests.{one_passes}
use Rattle.spec_history.proofs.Searches.Missing.{is_unseen, byte_is, passed_all}
use Rattle.spec_history.proofs.machine.Machine.commit_misses.Goals as goal

pub returns-then-change_is_missed : goal.returns-then-change_is_missed
returns-then-change_is_missed c =
    let count = count_of_cores c.args.self.now in
    let s = state_of c.args.self.now in
    let own = byte_in c.args.core.now.own.cells in
    let covers = c.touched-addr-items.ensures in
    let addr = slice_index c.touched-addr-items.result.now c.loop-addr.addr-index in
    let within : addr < length c.args.self.now.committed.items = omega (arith, covers.within c.loop-addr.addr-index c.loop-addr-test.true, c.requires) in
    let is = byte_is count s c.args.by own addr c.in-Some.byte (sym c.in-Some.ensures) in
    sym (one_passes (length c.args.self.now.committed.items) (is_unseen count s c.args.by (over own s.committed)) addr within (is ∙ sym c.if-change_is_missed.ensures))

pub returns : goal.returns
returns c =
    let all : c.loop-addr.addr-index ≡ length c.touched-addr-items.result.now = omega (arith, c.loop-addr-test.false, c.loop-addr.auto.addr-index-end) in
    sym (passed_all (length c.args.self.now.committed.items) (count_of_cores c.args.self.now) (state_of c.args.self.now) c.args.by c.args.core.now.own.cells c.touched-addr-items.result.now
    c.touched-addr-items.ensures (rw all at c.loop-addr.invariant))
