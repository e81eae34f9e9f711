use Rattle.std.proofs.Common.{◌≡◌, ◌∙◌, ◌<◌, ◌≤◌, ◌%◌, ℕ, Option, Some, false, length, slice_index, sym, ap, subst, arith}
use Rattle.std.specs.Vec.{with_items}
use Rattle.std.proofs.lemmas.List.{with_items_is}
use Rattle.spec_states.specs.States.{is_valid}
use Rattle.cache_lines.specs.Lines.{line_in}
use Rattle.cache_lines.specs.declared.line.Line.{Line}
use Rattle.bus_states.specs.Bus.{CoreState}
use Rattle.bus_states.specs.Messages.{Room, with_line}
use Rattle.spec_bus.specs.declared.bus_core.Core.{Core}
use Rattle.spec_bus.specs.CoreStates.{MayChange}
use Rattle.spec_bus.specs.Parts.{bus_in, line_or_none, message_in}
use Rattle.spec_bus.proofs.CoreCopies.{core_filled, core_same}
use Rattle.spec_bus.proofs.Moving.{victim_inside, fetched, may_fill}
use Rattle.spec_bus.proofs.parts.Parts.fetch.Goals as goal

abbrev room_of : ℕ → Line → Room
room_of way line = record { way = way; line = line }

pub fill-requires-clause-way : goal.fill-requires-clause-way
fill-requires-clause-way c =
    let same =
    core_same c.args.self.now.cores.items c.tell.new.self.cores.items c.args.sent.now.sender c.index_mut.result.now
    c.tell.ensures.told.count c.tell.ensures.own c.requires.sends.at.there c.index_mut.ensures.value in
    subst (λ (core : CoreState). c.args.way < core.geometry.ways) (sym same) c.requires.way

pub fill-requires-clause-aligned : goal.fill-requires-clause-aligned
fill-requires-clause-aligned c =
    let same =
    core_same c.args.self.now.cores.items c.tell.new.self.cores.items c.args.sent.now.sender c.index_mut.result.now
    c.tell.ensures.told.count c.tell.ensures.own c.requires.sends.at.there c.index_mut.ensures.value in
    let at = c.requires.sends.at in
    subst (λ n. c.args.sent.now.addr % n ≡ 0) (sym (ap (λ (core : CoreState). core.line_length) same ∙ at.coherent.lengths c.args.sent.now.sender at.there)) at.line

pub fill-requires-clause-absent : goal.fill-requires-clause-absent
fill-requires-clause-absent c =
    let same =
    core_same c.args.self.now.cores.items c.tell.new.self.cores.items c.args.sent.now.sender c.index_mut.result.now
    c.tell.ensures.told.count c.tell.ensures.own c.requires.sends.at.there c.index_mut.ensures.value in
    subst (λ (core : CoreState). is_valid (core.copy c.args.sent.now.addr).state ≡ false) (sym same) c.requires.absent

pub fill-requires-clause-may : goal.fill-requires-clause-may
fill-requires-clause-may c =
    let same =
    core_same c.args.self.now.cores.items c.tell.new.self.cores.items c.args.sent.now.sender c.index_mut.result.now
    c.tell.ensures.told.count c.tell.ensures.own c.requires.sends.at.there c.index_mut.ensures.value in
    let at = c.requires.sends.at in
    subst (λ (core : CoreState). MayChange core c.args.sent.now.addr c.args.next) (sym same)
    (may_fill (bus_in c.args.self.now) c.args.sent.now.sender c.args.sent.now.addr c.args.next at.coherent at.there c.requires.absent c.requires.mask c.requires.room)

pub fill-requires-clause-past : goal.fill-requires-clause-past
fill-requires-clause-past c x le =
    let same =
    core_same c.args.self.now.cores.items c.tell.new.self.cores.items c.args.sent.now.sender c.index_mut.result.now
    c.tell.ensures.told.count c.tell.ensures.own c.requires.sends.at.there c.index_mut.ensures.value in
    let at = c.requires.sends.at in
    c.requires.sends.past x
    (subst (λ n. n ≤ x) (ap (λ (core : CoreState). core.line_length) same ∙ at.coherent.lengths c.args.sent.now.sender at.there) le)

pub write_back-requires-clause-inside : goal.write_back-requires-clause-inside
write_back-requires-clause-inside c =
    rw (c.line-victim.ensures.value, c.tell.ensures.machine, c.as_mut_slice.ensures.value, c.tell.ensures.memory)
    (victim_inside (bus_in c.args.self.now) c.args.sent.now.sender c.core.result.now (line_in c.core.result.now.cache c.args.sent.now.addr c.args.way)
    c.requires.sends.at.coherent c.core.ensures.state c.line-victim.ensures.copy)

pub returns : goal.returns
returns c =
    let sent = c.args.sent.now in
    let mid = c.tell.new.self in
    let set =
    core_filled mid.cores.items sent.sender sent.addr c.args.way c.index_mut.result.now c.fill.new.self c.args.next (slice_index sent.line) (subst (λ n. sent.sender < n) (sym c.tell.ensures.told.count) c.requires.sends.at.there) c.index_mut.ensures.value c.fill.ensures in
    let first = with_items_is mid.memory c.write_back.new.memory (omega arith) in
    let second = with_items_is (with_items mid.memory c.write_back.new.memory) c.write_line.new.memory (omega arith) in
    let size : length c.write_line.new.memory ≡ length mid.memory.items = omega arith in
    fetched c.args.self.now mid _ _ (message_in sent) c.args.way c.args.next (room_of c.args.way c.line-victim.result.now)
    c.tell.ensures.told c.tell.ensures.own c.tell.ensures.memory c.tell.ensures.code c.tell.ensures.machine set.count set.core
    (ap (λ xs. length xs) second ∙ size)
    (ap (λ (core : Option Core). line_or_none core sent.addr (Some c.args.way)) c.core.ensures.is ∙ ap (λ (line : Line). Some (room_of c.args.way line)) (sym c.line-victim.ensures.value))
    (λ p. ap (λ xs. slice_index xs p) second
    ∙ ap (λ (byte : ℕ → ℕ). byte p) c.write_line.ensures
    ∙ ap (λ (memory : ℕ → ℕ). with_line mid.machine.line_length sent.addr (slice_index sent.line) memory p)
    (ap (λ xs. slice_index xs) (c.as_mut_slice-2.ensures.value ∙ first) ∙ rw c.as_mut_slice.ensures.value at c.write_back.ensures))
