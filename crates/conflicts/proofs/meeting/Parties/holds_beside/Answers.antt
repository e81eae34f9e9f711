use Rattle.std.proofs.Common.{ℕ, Bool}
use Rattle.spec_history.specs.Conflict.{line_count}
use Rattle.conflicts.specs.Parties.{holds_other, meeting_in}
use Rattle.conflicts.proofs.Nearing.{enough, none_counted, one_found, too_few}
use Rattle.conflicts.proofs.meeting.Parties.holds_beside.Goals as goal

pub loop-init : goal.loop-init
loop-init c = none_counted _ _

pub returns-then-found-lines : goal.returns-then-found-lines
returns-then-found-lines c =
    let end = line_count c.args.flat.now.image in
    let test : ℕ → Bool = holds_other c.args.flat.now.image (meeting_in c.args.flat.now c.args.self.now) c.args.line in
    too_few test c.loop.from end c.next_beside-found.result c.lines_of-lines.result c.loop.counter c.args.wanted c.next_beside-found.ensures (rw c.image.ensures at c.lines_of-lines.ensures.lines) c.if-found-lines.true c.loop.invariant c.loop-test.true

pub loop-preserved : goal.loop-preserved
loop-preserved c =
    let end = line_count c.args.flat.now.image in
    let test : ℕ → Bool = holds_other c.args.flat.now.image (meeting_in c.args.flat.now c.args.self.now) c.args.line in
    one_found test c.loop.from end c.next_beside-found.result c.lines_of-lines.result c.loop.counter c.next_beside-found.ensures (rw c.image.ensures at c.lines_of-lines.ensures.lines) c.if-found-lines.false c.loop.invariant

pub returns : goal.returns
returns c =
    let end = line_count c.args.flat.now.image in
    let test : ℕ → Bool = holds_other c.args.flat.now.image (meeting_in c.args.flat.now c.args.self.now) c.args.line in
    enough test c.loop.from end c.loop.counter c.args.wanted c.loop.invariant c.loop-test.false
