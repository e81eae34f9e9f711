use Rattle.std.proofs.Common.{◌∙◌, vec_capacity}
use Rattle.memory_bytes.proofs.Shadows.{byte_is, left_start, shadow_empty}
use Rattle.memory_bytes.proofs.shadow.ShadowBytes.clear.Goals as goal

pub empty-requires-clause-within : goal.empty-requires-clause-within
empty-requires-clause-within c = (left_start c.self.inside.cells.items c.self.inside.size c.self.inside.touched.items c.self.invariant.covers).within

pub empty-requires-clause-each : goal.empty-requires-clause-each
empty-requires-clause-each c = λ a byte some. c.self.invariant.covers.each a byte (byte_is c.self.inside.cells.items _ a ∙ some)

pub invariant_of-self : goal.invariant_of-self
invariant_of-self c =
    shadow_empty c.self.inside.cells.items c.empty.new.cells.items c.self.inside.size (vec_capacity c.self.inside.cells) (vec_capacity c.empty.new.cells) c.self.inside.touched.items c.empty.new.touched.items
    c.empty.ensures.long c.empty.ensures.none c.empty.ensures.capacity c.empty.ensures.list c.self.invariant
