use Rattle.std.proofs.Common.{rules, refl}
use Rattle.ticket_lock.proofs.RuleKept.{serves_at, taken, not_taken}
use Rattle.ticket_lock.proofs.ticket.try_take.Goals as goal

pub load-served-requires : goal.load-served-requires
load-served-requires g c = (
  search rules,
  search rules,
  serves_at g.T.Kept.fixed g.T.Kept.past _ _ _ c.args.seat.now.me _ c.requires.waiting.0 c.requires.waiting.1 c.requires.waiting.2,
)

pub returns-then-served-ticket-clause-handed : goal.returns-then-served-ticket-clause-handed
returns-then-served-ticket-clause-handed g c =
    taken g.T.Kept.fixed g.T.Kept.past c.args.seat.now.me c.args.seat.now.me _ _ _ refl c.requires.waiting.1 c.load-served.ensures.2 c.if-served-ticket.true

pub returns-else-served-ticket-clause-handed : goal.returns-else-served-ticket-clause-handed
returns-else-served-ticket-clause-handed g c =
    not_taken g.T.Kept.fixed g.T.Kept.past c.args.seat.now.me c.args.seat.now.me _ _ _ refl c.requires.waiting.1 c.load-served.ensures.2 c.if-served-ticket.false
