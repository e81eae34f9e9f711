use Rattle.std.proofs.Common.{rules}
use Rattle.ticket_lock.proofs.RuleKept.{draws}
use Rattle.ticket_lock.proofs.ticket.draw.Goals as goal

pub compare_exchange-found-requires : goal.compare_exchange-found-requires
compare_exchange-found-requires g c = (
  search rules,
  search rules,
  draws g.T.Kept.fixed g.T.Kept.past _ _ _ c.to_try.new.seat.me _ (search rules) (search rules) (search rules),
)
