use Rattle.std.proofs.Common.{rules, ◌≡◌, [], ap, ◌∙◌, subst}
use Rattle.std.specs.Prelude.{All}
use Rattle.ticket_lock.specs.declared.rule.View.{View}
use Rattle.ticket_lock.specs.Past.{entries_of}
use Rattle.ticket_lock.specs.Known.{Known, mine}
use Rattle.ticket_lock.specs.Rule.{IsLive, IsNoted}
use Rattle.ticket_lock.specs.Steps.{both_of}
use Rattle.ticket_lock.proofs.RuleKept.{joins, recalls}
use Rattle.ticket_lock.proofs.Passes.{live, both_mine}
use Rattle.ticket_lock.proofs.lock.TicketLock.join.Goals as goal

pub join_seat-requires : goal.join_seat-requires
join_seat-requires g c = (
  search rules,
  search rules,
  search rules,
  search rules,
  joins g.T.Kept.fixed g.T.Kept.past _ _ _ _ _
      (live c.first.inside.seat c.args.first _ c.first.view_is c.requires.first_own)
      (live c.second.inside.seat c.args.second _ c.second.view_is c.requires.second_own)
      c.first.invariant.idle c.second.invariant.idle (search rules),
)

pub load-requires : goal.load-requires
load-requires g c = (search rules, search rules, recalls g.T.Kept.fixed g.T.Kept.past _ _ _ _ _)

pub returns-clause-first_mine : goal.returns-clause-first_mine
returns-clause-first_mine g c =
    let V : Type 0 = View g.row.T-Fixed.Denot g.row.T-What.Denot in
    let v : V = c.first.inside.seat.me.0 in
    let w : V = c.second.inside.seat.me.0 in
    let last : V = c.load.new.seat.me.0 in
    let joined : c.join_seat.new.seat.me.0 ≡ both_of v w = ap (λ m. m.0) c.join_seat.ensures.2 in
    let alive = live c.first.inside.seat c.args.first _ c.first.view_is c.requires.first_own in
    let told = subst (λ (n : V). IsLive n → All (IsNoted n) n.noted) joined c.load.ensures.2.1 alive in
    let now : last ≡ record (both_of v w) { noted = [] } = ap (λ m. m.0) c.load.ensures.2.0 ∙ ap (λ (n : V). record n { noted = [] }) joined in
    subst (λ (k : Known g.row.T-Fixed.Denot g.row.T-What.Denot). entries_of k.lo k.hi (entries_of last.lo last.hi last.seen) ≡ mine k) c.first.view_is
    (ap (λ (n : V). entries_of v.lo v.hi (entries_of n.lo n.hi n.seen)) now ∙ (both_mine v w (search rules) c.first.invariant.some c.second.invariant.some told).0)

pub returns-clause-second_mine : goal.returns-clause-second_mine
returns-clause-second_mine g c =
    let V : Type 0 = View g.row.T-Fixed.Denot g.row.T-What.Denot in
    let v : V = c.first.inside.seat.me.0 in
    let w : V = c.second.inside.seat.me.0 in
    let last : V = c.load.new.seat.me.0 in
    let joined : c.join_seat.new.seat.me.0 ≡ both_of v w = ap (λ m. m.0) c.join_seat.ensures.2 in
    let alive = live c.first.inside.seat c.args.first _ c.first.view_is c.requires.first_own in
    let told = subst (λ (n : V). IsLive n → All (IsNoted n) n.noted) joined c.load.ensures.2.1 alive in
    let now : last ≡ record (both_of v w) { noted = [] } = ap (λ m. m.0) c.load.ensures.2.0 ∙ ap (λ (n : V). record n { noted = [] }) joined in
    subst (λ (k : Known g.row.T-Fixed.Denot g.row.T-What.Denot). entries_of k.lo k.hi (entries_of last.lo last.hi last.seen) ≡ mine k) c.second.view_is
    (ap (λ (n : V). entries_of w.lo w.hi (entries_of n.lo n.hi n.seen)) now ∙ (both_mine v w (search rules) c.first.invariant.some c.second.invariant.some told).1)
