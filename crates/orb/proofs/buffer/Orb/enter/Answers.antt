use Rattle.std.proofs.Common.{◌≡◌, false, subst, sym, ◌∙◌}
use Rattle.orb.specs.Lines.{Buffer, holds}
use Rattle.orb.proofs.EachOnce.{IsBuffer-push}
use Rattle.orb.proofs.buffer.Orb.enter.Goals as goal

pub invariant_of-self : goal.invariant_of-self
invariant_of-self c =
    rw c.push.ensures.items
    (IsBuffer-push c.self.inside.limit c.self.inside.lines.items c.args.addr c.self.invariant
    (subst (λ (buffer : Buffer). holds buffer.lines c.args.addr ≡ false) (sym c.self.view_is) c.requires)
    (λ e. c.if-len-self.false (c.len.ensures.value ∙ e)))
