use Rattle.std.proofs.Common.{◌≡◌, ◌∙◌, ◌<◌, refl, ap, sym, subst, arith}
use Rattle.spec_states.specs.States.{is_valid}
use Rattle.spec_states.proofs.MaskLaws.{width-bounds}
use Rattle.violations.specs.CoreSet.{is_in}
use Rattle.cache_lines.specs.Protocol.{copy_with_number}
use Rattle.bus_states.specs.Bus.{Bus, CoreState}
use Rattle.bus_states.specs.Messages.{with_copy}
use Rattle.spec_bus.specs.Parts.{bus_in}
use Rattle.spec_bus.proofs.Answering.{claimed_count, claimed_valid, claimed_length, stored_bytes}
use Rattle.spec_bus.proofs.CoreCopies.{core_set, state_get}
use Rattle.spec_bus.proofs.parts.Parts.store.Goals as goal

pub write-requires-clause-held : goal.write-requires-clause-held
write-requires-clause-held c =
    let count = ap (λ (bus : Bus). bus.shape.cores) c.in-Ok.ensures.taken.bus ∙ claimed_count (bus_in c.args.self.now) c.args.core c.args.addr c.args.offset c.args.width _ in
    ap (λ (core : CoreState). is_valid (core.copy c.args.addr).state)
    (state_get c.take_hold.new.self.cores.items c.args.core c.index_mut.result.now (subst (λ n. c.args.core < n) (sym count) c.requires.there) c.index_mut.ensures.value)
    ∙ ap (λ (bus : Bus). is_valid ((bus.core c.args.core).copy c.args.addr).state) c.in-Ok.ensures.taken.bus
    ∙ claimed_valid (bus_in c.args.self.now) c.args.core c.args.addr c.args.offset c.args.width _ c.requires.wide

pub write-requires-clause-in_line : goal.write-requires-clause-in_line
write-requires-clause-in_line c =
    let count = ap (λ (bus : Bus). bus.shape.cores) c.in-Ok.ensures.taken.bus ∙ claimed_count (bus_in c.args.self.now) c.args.core c.args.addr c.args.offset c.args.width _ in
    let length : c.index_mut.result.now.cache.line_length ≡ c.args.self.now.machine.line_length =
    ap (λ (core : CoreState). core.line_length)
    (state_get c.take_hold.new.self.cores.items c.args.core c.index_mut.result.now (subst (λ n. c.args.core < n) (sym count) c.requires.there) c.index_mut.ensures.value)
    ∙ ap (λ (bus : Bus). (bus.core c.args.core).line_length) c.in-Ok.ensures.taken.bus
    ∙ claimed_length (bus_in c.args.self.now) c.args.core c.args.addr c.args.offset c.args.width _
    ∙ c.requires.coherent.lengths c.args.core c.requires.there in
    let wide = (width-bounds c.args.width c.requires.wide).0 in
    let inside = c.requires.in_line in
    omega (arith, length, wide, inside)

pub returns-in-Ok : goal.returns-in-Ok
returns-in-Ok c =
    let count = ap (λ (bus : Bus). bus.shape.cores) c.in-Ok.ensures.taken.bus ∙ claimed_count (bus_in c.args.self.now) c.args.core c.args.addr c.args.offset c.args.width _ in
    let set =
    core_set c.take_hold.new.self.cores.items c.args.core c.index_mut.result.now c.write.new.self
    (λ (core : CoreState). with_copy c.args.addr (copy_with_number c.args.offset c.args.width c.args.value (core.copy c.args.addr)) core)
    (subst (λ n. c.args.core < n) (sym count) c.requires.there) c.index_mut.ensures.value c.write.ensures in (
      refl,
      stored_bytes c.args.self.now c.take_hold.new.self _ c.args.core c.args.addr c.args.offset c.args.width c.args.value _ (is_in c.in-Ok.hurt)
          c.in-Ok.ensures.taken set.count set.core,
    )
