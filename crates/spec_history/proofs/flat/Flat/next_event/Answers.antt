use Rattle.std.proofs.Common.{◌≡◌, ◌∙◌, Some, slice_get, option_map, option_and_then, sym, ap, rules}
use Rattle.spec_history.specs.Cores.{core_of}
use Rattle.spec_history.specs.FlatState.{arrival_of}
use Rattle.spec_history.proofs.flat.Flat.next_event.Goals as goal

pub returns : goal.returns
returns c =
    let core = c.in_ok-core.field-0.now in
    let image = c.self.inside.machine.image in
    let there : slice_get c.self.inside.machine.cores.items c.args.core ≡ Some core = search rules in
    rw (← c.self.view_is)
    (c.next_event.ensures image (c.self.invariant.fit.cores.each c.args.core core there)
    ∙ ap (λ o. option_map (λ s. arrival_of image s.hart) (option_and_then core_of o)) (sym there))
