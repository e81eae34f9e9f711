use Rattle.std.proofs.Common.{◌≡◌, ◌∷◌, refl, sym, subst}
use Rattle.atomic_table.specs.Table.{rest}
use Rattle.ticket_lock.specs.Rule.{in_slot}
use Rattle.ticket_lock.proofs.held.Held.value.Goals as goal

pub slot_mut-slot-requires : goal.slot_mut-slot-requires
slot_mut-slot-requires g c =
    let held = c.self.invariant in
    (held.table, (in_slot held.value, subst (λ slots. slots ≡ (0, in_slot held.value) ∷ rest slots) (sym held.slot) refl))
