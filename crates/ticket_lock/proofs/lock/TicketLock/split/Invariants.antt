use Rattle.ticket_lock.proofs.lock.TicketLock.split.Given as goal

abbrev pub ghosts-split_by : goal.ghosts-split_by
ghosts-split_by g a = record { at = a.at }
