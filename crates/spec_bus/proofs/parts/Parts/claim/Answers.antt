use Rattle.std.proofs.Common.{◌≡◌, ◌∙◌, ◌<◌, ◌≤◌, ℕ, true, length, slice_index, sym, ap, subst, arith}
use Rattle.std.proofs.lemmas.List.{with_items_is}
use Rattle.spec_states.specs.States.{is_valid}
use Rattle.bus_states.specs.Bus.{CoreState}
use Rattle.bus_states.specs.Messages.{changed_core}
use Rattle.spec_bus.specs.CoreStates.{MayChange}
use Rattle.spec_bus.specs.Parts.{message_in}
use Rattle.spec_bus.proofs.CoreCopies.{core_set, core_same}
use Rattle.spec_bus.proofs.Moving.{claimed}
use Rattle.spec_bus.proofs.parts.Parts.claim.Goals as goal

pub change-requires-clause-held : goal.change-requires-clause-held
change-requires-clause-held c v =
    let same =
    core_same c.args.self.now.cores.items c.tell.new.self.cores.items c.args.sent.now.sender c.index_mut.result.now
    c.tell.ensures.told.count c.tell.ensures.own c.requires.sends.at.there c.index_mut.ensures.value in
    subst (λ (core : CoreState). is_valid (core.copy c.args.sent.now.addr).state ≡ true) (sym same) c.requires.held

pub change-requires-clause-may : goal.change-requires-clause-may
change-requires-clause-may c =
    let same =
    core_same c.args.self.now.cores.items c.tell.new.self.cores.items c.args.sent.now.sender c.index_mut.result.now
    c.tell.ensures.told.count c.tell.ensures.own c.requires.sends.at.there c.index_mut.ensures.value in
    subst (λ (core : CoreState). MayChange core c.args.sent.now.addr c.args.next) (sym same) c.requires.may

pub change-requires-clause-past : goal.change-requires-clause-past
change-requires-clause-past c x le =
    let same =
    core_same c.args.self.now.cores.items c.tell.new.self.cores.items c.args.sent.now.sender c.index_mut.result.now
    c.tell.ensures.told.count c.tell.ensures.own c.requires.sends.at.there c.index_mut.ensures.value in
    let at = c.requires.sends.at in
    c.requires.sends.past x
    (subst (λ n. n ≤ x) (ap (λ (core : CoreState). core.line_length) same ∙ at.coherent.lengths c.args.sent.now.sender at.there) le)

pub write_line-requires-clause-inside : goal.write_line-requires-clause-inside
write_line-requires-clause-inside c =
    rw (c.tell.ensures.machine, c.as_mut_slice.ensures.value, c.tell.ensures.memory)
    (c.requires.sends.at.coherent.inside c.args.sent.now.sender c.args.sent.now.addr c.requires.held)

pub returns : goal.returns
returns c =
    let sent = c.args.sent.now in
    let mid = c.tell.new.self in
    let set =
    core_set mid.cores.items sent.sender c.index_mut.result.now c.change.new.self (changed_core sent.addr c.args.next (slice_index sent.line)) (subst (λ n. sent.sender < n) (sym c.tell.ensures.told.count) c.requires.sends.at.there) c.index_mut.ensures.value c.change.ensures in
    let items = with_items_is mid.memory c.write_line.new.memory (omega arith) in
    let size : length c.write_line.new.memory ≡ length mid.memory.items = omega arith in
    claimed c.args.self.now mid _ _ (message_in sent) c.args.next
    c.tell.ensures.told c.tell.ensures.own c.tell.ensures.memory c.tell.ensures.code c.tell.ensures.machine set.count set.core
    (ap (λ xs. length xs) items ∙ size)
    (λ p. ap (λ xs. slice_index xs p) items ∙ ap (λ (byte : ℕ → ℕ). byte p) (rw c.as_mut_slice.ensures.value at c.write_line.ensures))
