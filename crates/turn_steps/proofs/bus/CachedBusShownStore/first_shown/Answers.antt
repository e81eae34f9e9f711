use Rattle.std.proofs.Common.{ap, sym, subst, ◌∙◌}
use Rattle.rv32_image.specs.Places.{of_places}
use Rattle.rv32_image.specs.declared.machine.Machine.{Machine}
use Rattle.violations.specs.View.{Shape}
use Rattle.turn_steps.specs.Caches.{AreHeld}
use Rattle.turn_steps.proofs.BusRows.{are_whole}
use Rattle.turn_steps.proofs.bus.CachedBusShownStore.first_shown.Goals as goal

pub returns-clause-fits : goal.returns-clause-fits
returns-clause-fits c = record {
  machine_is = c.machine-machine.ensures.machine ∙ ap (λ (s : Shape). s.machine) (sym c.requires.shape);
  size_is = c.size-size.ensures.size ∙ ap (λ (s : Shape). s.size) (sym c.requires.shape);
  whole = are_whole (of_places c.machine-machine.result) c.args.self.now c.args.cores c.in_ok-cores.cores.items
      (subst (λ (m : Machine). AreHeld m c.args.self.now c.args.cores c.in_ok-cores.cores.items) c.of_places.ensures c.in_ok-cores.ensures);
  count = c.in_ok-cores.ensures.count_is ∙ ap (λ (s : Shape). s.cores) (sym c.requires.shape);
}
