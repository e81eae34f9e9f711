use Rattle.std.proofs.Common.{◌≡◌, length, refl, ap, ◌∙◌}
use Rattle.cache_lines.proofs.NotedLaws.{noted-set, whole}
use Rattle.cache_lines.proofs.noted.Noted.put.Goals as goal

pub invariant_of-self : goal.invariant_of-self
invariant_of-self c =
    noted-set c.self.inside.lines.items c.self.inside.places.items c.self.inside.places.items c.self.inside.listed.items c.self.inside.listed.items _ c.args.place c.args.line
    (rw (← c.self.view_is) at c.requires) c.self.invariant c.self.invariant.list refl (λ mark. absurd cc) (λ other has. has)

pub invariant_of-self-2 : goal.invariant_of-self-2
invariant_of-self-2 c =
    let flags : length c.list.new.listed ≡ c.self.inside.listed.len = c.list.auto.listed ∙ c.deref_mut.ensures.len in
    rw (whole, c.list.ensures.capacity)
    (noted-set c.self.inside.lines.items c.self.inside.places.items c.list.new.places.items c.self.inside.listed.items c.list.new.listed _ c.args.place c.args.line
    (rw (← c.self.view_is) at c.requires) c.self.invariant c.list.ensures.list (c.list.auto.listed ∙ ap length c.deref_mut.ensures.value) (λ _. c.list.ensures.there) c.list.ensures.kept)
