use Rattle.std.proofs.Common.{◌≡◌, ◌<◌, List, ◌++◌, ap, sym, subst, ◌∙◌, arith}
use Rattle.rv32_image.specs.declared.machine.Machine.{Machine}
use Rattle.rv32_image.specs.Places.{of_places}
use Rattle.spec_bus.specs.Cached.{bus}
use Rattle.turn_steps.specs.Caches.{AreHeld, Held, bus_changes}
use Rattle.turn_steps.proofs.BusRows.{are_whole, places_allowed, places_machine}
use Rattle.turn_steps.proofs.Standing.{IsOn, changes_are}
use Rattle.turn_steps.proofs.bus.CachedBusShownStore.push_changes.Goals as goal

pub returns-clause-fits : goal.returns-clause-fits
returns-clause-fits c = record {
  machine_is = c.requires.machine_is;
  size_is = c.requires.size_is;
  whole = are_whole (of_places c.args.shown.now.layout.machine) c.args.self.now c.cores.result c.in_ok-cores.cores.items
      (subst (λ (m : Machine). AreHeld m c.args.self.now c.cores.result c.in_ok-cores.cores.items) c.of_places.ensures c.in_ok-cores.ensures.held);
  count = c.in_ok-cores.ensures.held.count_is ∙ c.cores.ensures;
}

pub returns-clause-text : goal.returns-clause-text
returns-clause-text c = λ old shows keeps.
    let own = c.args.shown.now.layout.machine in
    let machine = c.of_places.result in
    let cores = c.cores.result in
    let old_count : (bus old).shape.cores ≡ cores = sym shows.cores_are.count_is ∙ (c.requires.count ∙ sym c.cores.ensures) in
    let held : AreHeld (of_places own) old cores c.args.shown.now.cores.items = subst (λ n. AreHeld (of_places own) old n c.args.shown.now.cores.items) old_count shows.cores_are in
    let was : IsOn (of_places own) old = record {
      coherent = shows.coherent;
      allowed = places_allowed own shows.allowed.is;
      machine_is = places_machine own old shows.machine_is shows.coherent;
      placed = shows.cores_are.placed;
    } in
    let is : IsOn (of_places own) c.args.self.now = record {
      coherent = c.look.ensures.coherent;
      allowed = places_allowed own shows.allowed.is;
      machine_is = places_machine own c.args.self.now c.requires.machine_is c.look.ensures.coherent;
      placed = λ k below. c.in_ok-cores.ensures.held.placed k (subst (λ n. k < n) (sym c.cores.ensures) below);
    } in
    c.in_ok-cores.ensures.text old
    (subst (λ (m : Machine). AreHeld m old cores c.as_slice.result.now) (sym c.of_places.ensures)
    (subst (λ (shown : List Held). AreHeld (of_places own) old cores shown) (sym c.as_slice.ensures.value) held))
    ∙ ap (λ t. c.args.text.now.items ++ t)
    (changes_are machine old c.args.self.now cores
    (subst (λ (m : Machine). IsOn m old) (sym c.of_places.ensures) was)
    (subst (λ (m : Machine). IsOn m c.args.self.now) (sym c.of_places.ensures) is)
    (omega (arith, old_count)) (omega (arith, c.cores.ensures))
    ∙ ap (bus_changes (bus old) (bus c.args.self.now)) c.cores.ensures)
