use Rattle.std.proofs.Common.{◌≡◌, length, ap, ◌∙◌}
use Rattle.cache_lines.specs.Changes.{rolled_back_line}
use Rattle.cache_lines.proofs.NotedLaws.{noted-map, whole}
use Rattle.cache_lines.proofs.Plain.{MakesPlain-rolled_back}
use Rattle.cache_lines.proofs.noted.Noted.roll_back.Goals as goal

pub invariant_of-self : goal.invariant_of-self
invariant_of-self c =
    let lines : length c.roll_back_at.new.lines ≡ c.self.inside.lines.len = c.roll_back_at.auto.lines ∙ c.deref_mut.ensures.len in
    let flags : length c.unlist.new.listed ≡ c.self.inside.listed.len = c.unlist.auto.listed ∙ c.deref_mut-2.ensures.len in
    rw (whole c.self.inside.lines.len c.roll_back_at.new.lines _ lines, whole c.self.inside.listed.len c.unlist.new.listed _ flags, c.roll_back_at.ensures, c.deref_mut.ensures.value, c.unlist.ensures.empty, c.unlist.ensures.capacity)
    (noted-map rolled_back_line MakesPlain-rolled_back c.self.inside.lines.items c.self.inside.places.items c.self.inside.listed.items c.unlist.new.listed _ c.self.invariant
    (rw c.unlist.ensures.empty at c.unlist.ensures.list) (c.unlist.auto.listed ∙ ap length c.deref_mut-2.ensures.value))
