use Rattle.ticket_lock.specs.Steps.{Becomes}
use Rattle.ticket_lock.proofs.ticket.draw.Given as goal

-- the seat is as it was
abbrev pub invariant-loop : goal.invariant-loop
invariant-loop g l = Becomes l.initial.seat l.seat l.initial.seat.me
