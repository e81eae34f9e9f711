use Rattle.std.proofs.Common.{rules}
use Rattle.ticket_lock.proofs.RuleKept.{looks_next}
use Rattle.ticket_lock.proofs.ticket.to_try.Goals as goal

pub load-next-requires : goal.load-next-requires
load-next-requires g c = (search rules, search rules, looks_next g.T.Kept.fixed g.T.Kept.past _ _ _ _)
