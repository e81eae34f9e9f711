use Rattle.std.proofs.Common.{◌≡◌, ◌∙◌, ℕ, length, slice_index, ap, arith}
use Rattle.std.proofs.lemmas.List.{with_items_is}
use Rattle.bus_states.specs.Bus.{CoreState}
use Rattle.bus_states.specs.Messages.{changed_core}
use Rattle.spec_bus.proofs.CoreCopies.{core_set, state_get}
use Rattle.spec_bus.proofs.Moving.{kept}
use Rattle.spec_bus.proofs.parts.Parts.keep.Goals as goal

pub returns : goal.returns
returns c =
    let old = c.args.self.now.cores.items in
    let set =
    core_set old c.args.core c.index_mut.result.now c.mark.new.self (λ (core : CoreState). changed_core c.args.addr c.args.next (core.copy c.args.addr).cell core)
    c.requires.place.there c.index_mut.ensures.value c.mark.ensures in
    let size : length c.write_line_if.new.memory ≡ length c.args.self.now.memory.items = omega arith in
    let items = with_items_is c.args.self.now.memory c.write_line_if.new.memory (omega arith) in
    let bytes = rw c.as_mut_slice.ensures.value at c.write_line_if.ensures in
    kept c.args.self.now _ _ c.args.core c.args.addr c.args.next c.line_at-copy.result.now.cells
    set.count set.core (ap (λ xs. length xs) items ∙ size)
    (λ p. ap (λ xs. slice_index xs p) items ∙ ap (λ (byte : ℕ → ℕ). byte p) bytes) c.requires.silent
    (λ x. c.line_at-copy.ensures.cells x
    ∙ ap (λ (core : CoreState). (core.copy c.args.addr).cell x) (state_get old c.args.core c.index.result.now c.requires.place.there c.index.ensures))
