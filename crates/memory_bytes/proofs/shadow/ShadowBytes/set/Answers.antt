use Rattle.std.proofs.Common.{◌<◌, length, vec_capacity, sym, ap, subst}
use Rattle.memory_bytes.specs.Shadow.{ShadowView}
use Rattle.memory_bytes.proofs.Shadows.{shadow_put, view_set}
use Rattle.memory_bytes.proofs.shadow.ShadowBytes.set.Goals as goal

pub invariant_of-self : goal.invariant_of-self
invariant_of-self c =
    shadow_put c.self.inside.cells.items c.reach.new.cells.items c.put.new.cells.items c.self.inside.size (vec_capacity c.self.inside.cells) (vec_capacity c.reach.new.cells) (vec_capacity c.put.new.cells)
    c.args.addr c.args.byte c.self.inside.touched.items c.put.new.touched.items (subst (λ (v : ShadowView). c.args.addr < length v.cells) (sym c.self.view_is) c.requires.within)
    c.reach.ensures.within c.reach.ensures.same c.reach.ensures.capacity c.put.ensures.cells c.put.ensures.list c.put.ensures.capacity c.reach.ensures.there c.self.invariant

pub returns-clause-cells : goal.returns-clause-cells
returns-clause-cells c =
    view_set c.self.inside.cells.items c.reach.new.cells.items c.put.new.cells.items c.args.self.now.cells c.self.inside.size (vec_capacity c.self.inside.cells) c.args.addr c.args.byte c.self.inside.touched.items
    (sym (ap (λ (v : ShadowView). v.cells) c.self.view_is)) c.requires.within c.reach.ensures.there c.reach.ensures.same c.put.ensures.cells c.self.invariant
