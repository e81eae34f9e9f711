use Rattle.std.proofs.Common.{◌%◌}
use Rattle.conflict_findings.specs.KnownEnds.{IsKnownEnd}
use Rattle.conflict_findings.proofs.Ahead.{at_slot, same_end}
use Rattle.conflict_findings.proofs.known_ends.KnownEnds.over_at.Goals as goal

pub returns-then-is_of-clause-over : goal.returns-then-is_of-clause-over
returns-then-is_of-clause-over c =
    let entries = c.args.entries.now in
    let was = at_slot (IsKnownEnd entries) c.args.self.now.slots (c.args.e.causer.core % 16) c.in-Some.ending c.requires c.in-Some.is in
    let of = c.if-is_of.ensures in
    same_end entries c.in-Some.ending c.args.e was of.core of.epoch of.later of.before
