use Rattle.std.proofs.Common.{rules}
use Rattle.ticket_lock.proofs.RuleKept.{splits}
use Rattle.ticket_lock.proofs.lock.TicketLock.split_by.Goals as goal

pub split_seat-right-requires : goal.split_seat-right-requires
split_seat-right-requires g c = (search rules, search rules, splits g.T.Kept.fixed g.T.Kept.past _ _ _ _ c.pass.invariant.idle (search rules) (search rules))
