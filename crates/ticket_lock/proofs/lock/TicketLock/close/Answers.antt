use Rattle.std.proofs.Common.{rules, ◌≡◌, ap, ◌∙◌, sym, subst}
use mathlib.Core.Option.{some-injective}
use Rattle.ticket_lock.proofs.RuleKept.{ends}
use Rattle.ticket_lock.proofs.Passes.{IsFound, found}
use Rattle.ticket_lock.proofs.lock.TicketLock.close.Goals as goal

pub split_seat-ended-requires : goal.split_seat-ended-requires
split_seat-ended-requires g c = (search rules, search rules, ends g.T.Kept.fixed g.T.Kept.past _ _ _)

pub returns : goal.returns
returns g c =
    let f = found g.T.Kept.fixed g.T.Kept.past c.pass.inside.seat _ c.args.pass c.args.self c.pass.view_is (search rules) c.requires.own c.requires.whole.0 c.requires.whole.1 c.pass.invariant.idle
    c.split_seat-ended.new.seat.me.0 (ap (λ m. m.0) c.split_seat-ended.ensures.2) _ _ _ c.close_with-closed.ensures.values.2 in
    let same : f.0 ≡ c.take-value.result.value = ap (λ s. s.value) (sym (some-injective _ _ (sym c.take-value.ensures.value ∙ f.1))) in
    let known : IsFound g.T.Kept.fixed g.T.Kept.past c.args.pass c.args.self c.take-value.result.value = subst (λ x. IsFound g.T.Kept.fixed g.T.Kept.past c.args.pass c.args.self x) same f.2 in
    record { pass = search rules; fixed = known.fixed; begins = known.begins; own = known.own; past = known.past }
