use Rattle.std.proofs.Common.{◌∙◌, ◌<◌, ℕ, slice_index, refl, sym, ap, subst, rules}
use Rattle.std.proofs.Math.Path.{fun_ext}
use Rattle.bus_states.proofs.Coherence.{sees-held}
use Rattle.bus_states.proofs.Publishing.{IsListed, listed-aligned, listed-held, publish-free}
use Rattle.spec_bus.specs.Parts.{bus_in}
use Rattle.bus_states.specs.Bus.{Bus}
use Rattle.spec_bus.proofs.CoreCopies.{core_set}
use Rattle.spec_bus.proofs.Moving.{may_change}
use Rattle.spec_bus.proofs.PublishLoop.{line_published, released_core}
use Rattle.spec_bus.proofs.parts.Parts.publish_line.Goals as goal

pub survey-survey-requires : goal.survey-survey-requires
survey-survey-requires c = record {
  there = c.requires.place.there;
  line = listed-aligned (bus_in c.args.self.now) c.args.core c.args.addr c.requires.place.coherent (record { in_cores = c.requires.place.there; listed = c.requires.listed });
  coherent = c.requires.place.coherent;
}

pub claim-requires-clause-sends : goal.claim-requires-clause-sends
claim-requires-clause-sends c =
    let listed : IsListed (bus_in c.args.self.now) c.args.core c.args.addr = record { in_cores = c.requires.place.there; listed = c.requires.listed } in record {
      at = record {
        there = c.requires.place.there;
        line = listed-aligned (bus_in c.args.self.now) c.args.core c.args.addr c.requires.place.coherent listed;
        coherent = c.requires.place.coherent;
      };
      past = λ x le. c.copy-copy.ensures.cells x ∙ (c.requires.place.coherent.in_place c.args.core c.args.addr).cells x le;
      may = record {
        hurts = c.survey-survey.ensures.hurt;
        free = publish-free (bus_in c.args.self.now) c.args.core c.args.addr c.requires.place.coherent listed;
      };
    }

pub claim-requires-clause-may : goal.claim-requires-clause-may
claim-requires-clause-may c =
    may_change (bus_in c.args.self.now) c.args.core c.args.addr c.settled-next.result c.requires.place.coherent c.requires.place.there (search rules) (search rules) (search rules)

pub returns-clause-bus : goal.returns-clause-bus
returns-clause-bus c =
    let listed : IsListed (bus_in c.args.self.now) c.args.core c.args.addr = record { in_cores = c.requires.place.there; listed = c.requires.listed } in
    let there = subst (λ (n : ℕ). c.args.core < n) (sym (ap (λ (bus : Bus). bus.shape.cores) c.claim.ensures)) c.requires.place.there in
    let set = core_set c.claim.new.self.cores.items c.args.core c.index_mut.result.now c.release.new.self (released_core c.args.addr) there c.index_mut.ensures.value c.release.ensures in
    line_published c.args.self.now c.claim.new.self _ c.args.core c.args.addr c.settled-next.result (slice_index c.copy-copy.result.now.cells)
    c.claim.ensures set.count set.core
    (fun_ext (λ x. c.copy-copy.ensures.cells x
    ∙ sees-held (bus_in c.args.self.now) c.args.core c.args.addr c.requires.place.coherent (listed-aligned (bus_in c.args.self.now) c.args.core c.args.addr c.requires.place.coherent listed)
    (listed-held (bus_in c.args.self.now) c.args.core c.args.addr c.requires.place.coherent listed) x))
    (c.settled-next.ensures.table ∙ rw (c.copy-copy.ensures.state, c.copy-copy.ensures.marks, c.survey-survey.ensures.alone) refl)
