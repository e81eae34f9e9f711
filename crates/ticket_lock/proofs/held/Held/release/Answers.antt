use Rattle.std.proofs.Common.{rules, [], ◌∷◌, ap, ◌∙◌, sym, subst}
use Rattle.ticket_lock.specs.Rule.{in_slot}
use Rattle.ticket_lock.specs.Known.{Known, value_in}
use Rattle.ticket_lock.specs.Past.{GrowsBy}
use Rattle.ticket_lock.proofs.RuleKept.{hands_back_at}
use Rattle.ticket_lock.proofs.Passes.{fixed_is}
use Rattle.ticket_lock.proofs.held.Held.release.Goals as goal

pub fetch_add-served-requires : goal.fetch_add-served-requires
fetch_add-served-requires g c =
    let seat = c.self.inside.seat in
    let is = ap (λ h. h.pass) c.self.view_is in
    let value = ap (λ h. h.value) c.self.view_is in
    let has = sym (ap (value_in c.self.inside.taken.value) c.self.invariant.slot) ∙ value in
    let carried = c.self.invariant.slot ∙ ap (λ x. (0, in_slot x) ∷ []) has in (
      search rules,
      search rules,
      hands_back_at g.T.Kept.fixed g.T.Kept.past _ _ _ seat.me seat.me.0 c.self.invariant.ticket c.args.self.value
          (λ i. (seat.me.0, carried i)) c.self.invariant.live c.self.invariant.holds
          (fixed_is seat c.args.self.pass _ is c.requires.fixed)
          (subst (λ (k : Known _ _). GrowsBy k.lo k.seen (g.T.Kept.past c.args.self.value)) (sym is) c.requires.grown),
    )
