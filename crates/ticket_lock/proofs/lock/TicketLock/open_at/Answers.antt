use Rattle.std.proofs.Common.{rules, ◌≡◌, ◌∷◌, [], refl, sym, subst}
use Rattle.atomic_table.specs.Table.{opening}
use Rattle.ticket_lock.specs.Rule.{LockRule, opening_of, first_view, in_slot}
use Rattle.ticket_lock.proofs.RuleKept.{opens}
use Rattle.ticket_lock.proofs.lock.TicketLock.open_at.Goals as goal

pub new-requires : goal.new-requires
new-requires g c =
    let x = c.of.result.value in
    let o = opening_of g.T.Kept.fixed record { numbers = c.args.n; value = c.of.result } in
    let items : c.push.new.self.items ≡ in_slot x ∷ [] = search rules in
    subst (λ xs. LockRule g.T.Kept.fixed g.T.Kept.past o (opening (c.args.first ∷ c.args.first ∷ []) xs (first_view g.T.Kept.past o x))) (sym items)
    (opens g.T.Kept.fixed g.T.Kept.past o c.args.first x c.requires.tickets c.requires.numbers refl)
