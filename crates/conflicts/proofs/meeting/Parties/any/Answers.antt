use Rattle.std.proofs.Common.{◌<◌, slice_index, sym, ◌∙◌, arith}
use Rattle.spec_history.proofs.Searches.Tests.{one_passes}
use Rattle.conflicts.specs.Parties.{meeting_in, passes}
use Rattle.conflicts.proofs.Listed.{none_listed}
use Rattle.conflicts.proofs.meeting.Parties.any.Goals as goal

pub returns-then-passes : goal.returns-then-passes
returns-then-passes c =
    let addr = slice_index c.read_addresses-addr-items.result.now c.loop-addr.addr-index in
    let below : addr < c.args.flat.now.image.size = omega (arith, c.read_addresses-addr-items.ensures.within c.loop-addr.addr-index c.loop-addr-test.true) in
    sym (one_passes c.args.flat.now.image.size (passes c.args.flat.now.image (meeting_in c.args.flat.now c.args.self.now) c.args.test) addr below (sym c.passes.ensures ∙ c.if-passes.true))

pub returns : goal.returns
returns c =
    sym (none_listed c.args.flat.now.image (meeting_in c.args.flat.now c.args.self.now) c.args.test c.read_addresses-addr-items.result.now
    c.read_addresses-addr-items.ensures.each (λ place below. c.loop-addr.invariant place (omega (arith, below, c.loop-addr-test.false))))
