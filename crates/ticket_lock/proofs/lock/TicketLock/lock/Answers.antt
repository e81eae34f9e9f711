use Rattle.std.proofs.Common.{rules, ◌∷◌, ap, ◌∙◌, sym}
use Rattle.atomic_table.specs.Table.{rest}
use Rattle.ticket_lock.specs.Rule.{in_slot}
use Rattle.ticket_lock.proofs.lock.TicketLock.lock.Goals as goal

pub slot_mut-slot-requires : goal.slot_mut-slot-requires
slot_mut-slot-requires g c =
    let x = c.wait.ensures.handed.0 in
    let carried = ap (λ m. m.1) c.wait.ensures.handed.1.seat in
    (search rules, (in_slot x, carried ∙ ap (λ cs. (0, in_slot x) ∷ rest cs) (sym carried)))
