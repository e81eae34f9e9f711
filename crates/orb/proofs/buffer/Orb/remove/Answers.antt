use Rattle.std.proofs.Common.{sym, ap, subst, ◌∙◌}
use Rattle.orb.specs.Lines.{Buffer, IsBuffer, holds}
use Rattle.orb.proofs.EachOnce.{holds-at, holds-without, without-absent, absent, IsBuffer-without, buffer, buffer-remove}
use Rattle.orb.proofs.buffer.Orb.remove.Goals as goal

pub invariant_of-self : goal.invariant_of-self
invariant_of-self c =
    let seen : Buffer = c.args.self.now in
    let kept : IsBuffer seen = subst IsBuffer c.self.view_is c.self.invariant in
    rw c.remove.ensures.items
    (subst IsBuffer
    (sym (buffer-remove c.self.inside.limit c.self.inside.lines.items seen c.in-Some.i c.args.addr c.self.view_is c.place_of.ensures.each_once c.in-Some.ensures.at))
    (IsBuffer-without seen.limit seen.lines c.args.addr kept))

pub returns-in-Some-clause-found : goal.returns-in-Some-clause-found
returns-in-Some-clause-found c = sym (holds-at c.args.self.now.lines c.in-Some.i c.args.addr c.in-Some.ensures.at)

pub returns-in-Some-clause-rest : goal.returns-in-Some-clause-rest
returns-in-Some-clause-rest c =
    rw c.remove.ensures.items
    (buffer-remove c.self.inside.limit c.self.inside.lines.items c.args.self.now c.in-Some.i c.args.addr c.self.view_is c.place_of.ensures.each_once c.in-Some.ensures.at)

pub returns-in-Some-clause-holds : goal.returns-in-Some-clause-holds
returns-in-Some-clause-holds c =
    λ x. rw c.remove.ensures.items
    (ap (λ (buffer : Buffer). holds buffer.lines x)
    (buffer-remove c.self.inside.limit c.self.inside.lines.items c.args.self.now c.in-Some.i c.args.addr c.self.view_is c.place_of.ensures.each_once c.in-Some.ensures.at)
    ∙ holds-without c.args.addr x c.args.self.now.lines)

pub returns-in-None-clause-found : goal.returns-in-None-clause-found
returns-in-None-clause-found c = sym (absent c.args.addr c.args.self.now.lines c.in-None.ensures.none)

pub returns-in-None-clause-rest : goal.returns-in-None-clause-rest
returns-in-None-clause-rest c =
    let out = absent c.args.addr c.args.self.now.lines c.in-None.ensures.none in
    ap (buffer c.args.self.now.limit) (sym (without-absent c.args.addr c.args.self.now.lines out))

pub returns-in-None-clause-holds : goal.returns-in-None-clause-holds
returns-in-None-clause-holds c =
    let out = absent c.args.addr c.args.self.now.lines c.in-None.ensures.none in
    λ x. rw (without-absent c.args.addr c.args.self.now.lines out) at (holds-without c.args.addr x c.args.self.now.lines)
