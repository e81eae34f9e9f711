use Rattle.std.proofs.Common.{◌≤◌, length, sym, ap, subst, ◌∙◌, arith}
use Rattle.rv32_image.specs.declared.machine.Machine.{Machine}
use Rattle.rv32_image.proofs.Bounds.{by_length, most_few}
use Rattle.rv32_image.proofs.Places.{places-few}
use Rattle.spec_states.specs.declared.line.TheConstants.{LONGEST_LINE}
use Rattle.bus_states.specs.Bus.{Bus}
use Rattle.bus_states.specs.Coherent.{IsCoherent}
use Rattle.bus_states.specs.Views.{AreOrdered}
use Rattle.bus_states.proofs.AttemptRules.{opened-coherent, opened-ordered}
use Rattle.spec_bus.specs.Fresh.{fresh_bus, by_places}
use Rattle.spec_bus.proofs.Laying.{by_places-length}
use Rattle.spec_bus.proofs.Placing.{fresh-made, fresh-opened, fresh-places, fresh-seen}
use Rattle.spec_bus.proofs.cached.CachedBusEpochStore.fresh.Goals as goal

pub invariant_of-parts-clause-few : goal.invariant_of-parts-clause-few
invariant_of-parts-clause-few c =
    let few = most_few c.args.image.now.version in omega (arith, c.in_ok-cores.ensures.count, c.requires.cores.most, few)

pub invariant_of-parts-clause-short : goal.invariant_of-parts-clause-short
invariant_of-parts-clause-short c =
    let image = c.args.image.now in
    let short = by_length (λ n. n ≤ LONGEST_LINE) image.machine.line_length c.machine-machine.ensures.limits.machine_allowed.is.line_length (omega arith) (omega arith) (omega arith) in
    subst (λ (m : Machine). m.line_length ≤ LONGEST_LINE) (sym c.machine-machine.ensures.machine) short

pub invariant_of-result : goal.invariant_of-result
invariant_of-result c =
    let image = c.args.image.now in
    let limits = c.code.ensures.limits in
    let fits = limits.machine_allowed in
    let is =
    fresh-made image c.args.cores limits.machine_allowed limits.byte_count c.code.result c.machine-machine.result c.in_ok-cores.cores.items c.in_ok-memory.memory.items
    c.in_ok-cores.ensures.count c.in_ok-cores.ensures.idle c.in_ok-memory.ensures c.code.ensures.code c.machine-machine.ensures.machine in
    let opened = fresh-opened image c.args.cores fits limits.byte_count in
    let long = ap length c.in_ok-memory.ensures ∙ by_places-length image fits limits.byte_count in
    let most = places-few image.machine image.size fits limits.size_most in record {
      bus = record {
        coherent = subst (λ (bus : Bus). IsCoherent bus) (sym is) (opened-coherent (fresh_bus (by_places image) c.args.cores) (by_places image) c.args.cores opened);
        ordered = subst (λ (bus : Bus). AreOrdered bus) (sym is) (opened-ordered (fresh_bus (by_places image) c.args.cores) (by_places image) c.args.cores opened);
        small = omega (arith, long, most);
      };
      places =
          fresh-places image c.args.cores fits limits.byte_count limits.size_most _ _ _ c.size-size.ensures.size
          (ap (λ (m : Machine). m.apart) c.machine-machine.ensures.machine) is;
    }

pub returns-clause-bus : goal.returns-clause-bus
returns-clause-bus c =
    let image = c.args.image.now in
    let limits = c.code.ensures.limits in
    fresh-made image c.args.cores limits.machine_allowed limits.byte_count c.code.result c.machine-machine.result c.in_ok-cores.cores.items c.in_ok-memory.memory.items
    c.in_ok-cores.ensures.count c.in_ok-cores.ensures.idle c.in_ok-memory.ensures c.code.ensures.code c.machine-machine.ensures.machine

pub returns-clause-fresh : goal.returns-clause-fresh
returns-clause-fresh c =
    let image = c.args.image.now in
    let limits = c.code.ensures.limits in
    let is =
    fresh-made image c.args.cores limits.machine_allowed limits.byte_count c.code.result c.machine-machine.result c.in_ok-cores.cores.items c.in_ok-memory.memory.items
    c.in_ok-cores.ensures.count c.in_ok-cores.ensures.idle c.in_ok-memory.ensures c.code.ensures.code c.machine-machine.ensures.machine in
    fresh-seen image c.args.cores limits.machine_allowed limits.byte_count _ _ _ c.size-size.ensures.size
    (ap (λ (m : Machine). m.apart) c.machine-machine.ensures.machine) is

pub returns-clause-starts : goal.returns-clause-starts
returns-clause-starts c =
    let image = c.args.image.now in
    let limits = c.code.ensures.limits in
    let is =
    fresh-made image c.args.cores limits.machine_allowed limits.byte_count c.code.result c.machine-machine.result c.in_ok-cores.cores.items c.in_ok-memory.memory.items
    c.in_ok-cores.ensures.count c.in_ok-cores.ensures.idle c.in_ok-memory.ensures c.code.ensures.code c.machine-machine.ensures.machine in record {
      bus_is = is;
      size = c.size-size.ensures.size;
      apart = ap (λ (m : Machine). m.apart) c.machine-machine.ensures.machine;
    }
