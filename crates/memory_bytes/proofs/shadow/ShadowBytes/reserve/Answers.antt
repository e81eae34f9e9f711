use Rattle.std.proofs.Common.{◌+◌, ap, ◌∙◌, sym, arith}
use Rattle.memory_bytes.specs.Shadow.{ShadowView, byte_in}
use Rattle.memory_bytes.proofs.Shadows.{byte_is, shadow_longer}
use Rattle.memory_bytes.proofs.shadow.ShadowBytes.reserve.Goals as goal

pub invariant_of-self-2 : goal.invariant_of-self-2
invariant_of-self-2 c =
    shadow_longer c.self.inside.cells.items c.reserve-2.new.self.items c.self.inside.size (c.args.addr + c.args.width) _ _ c.self.inside.touched.items c.reserve.new.self.items
    c.reserve-2.ensures.items c.reserve.ensures.items c.if-end-self.false c.requires (omega (arith, c.in_ok-reserve-2.ensures.ok, c.reserve-2.ensures.len, c.len.ensures, c.if-end-self.false, c.self.invariant.within))
    c.self.invariant

pub returns-clause-bytes : goal.returns-clause-bytes
returns-clause-bytes c = λ a.
    byte_is c.reserve-2.new.self.items _ a
    ∙ (ap (λ l. byte_in l a) c.reserve-2.ensures.items ∙ (sym (byte_is c.self.inside.cells.items _ a) ∙ ap (λ (v : ShadowView). byte_in v.cells a) c.self.view_is))
