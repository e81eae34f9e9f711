use Rattle.std.proofs.Common.{◌≡◌, ◌∙◌, ℕ, ◌==◌, true, cond, None, Some, ◌≤◌, slice_index, sym, ap, subst, rules}
use Rattle.spec_states.specs.declared.next.Next.{Next}
use Rattle.std.proofs.Math.Path.{fun_ext}
use Rattle.spec_states.specs.States.{is_valid}
use Rattle.cache_lines.specs.Cells.{with_number}
use Rattle.bus_states.proofs.Coherence.{sees-held, committed-past}
use Rattle.cache_lines.proofs.Written.{number-past}
use Rattle.bus_states.specs.Messages.{changed_core}
use Rattle.bus_states.specs.Bus.{CoreState}
use Rattle.bus_states.specs.Speculative.{own}
use Rattle.bus_states.specs.Straight.{stores_alone}
use Rattle.spec_bus.specs.Parts.{bus_in, core_at, line_at, room_at}
use Rattle.spec_bus.proofs.CoreCopies.{core_set, state_get}
use Rattle.spec_bus.proofs.Moving.{may_change}
use Rattle.spec_bus.proofs.StraightMoves.{sees_committed, stored_alone, stored_sent, room_held, room_missed}
use Rattle.spec_bus.proofs.parts.Parts.straight_store.Goals as goal

pub returns-then-stores_alone-clause-bus : goal.returns-then-stores_alone-clause-bus
returns-then-stores_alone-clause-bus c =
    let old = c.args.self.now.cores.items in
    let set =
    core_set old c.args.core c.index_mut.result.now c.change.new.self (changed_core c.args.addr c.unmarked.result (slice_index c.with_number-stored.result.cells))
    c.requires.access.access.there c.index_mut.ensures.value c.change.ensures in
    stored_alone c.args.self.now _ c.args.core c.args.addr c.args.offset c.args.width c.args.value (room_at old c.args.core c.args.addr)
    c.with_number-stored.result.cells set.count
    (λ j. set.core j
    ∙ ap (λ (next : Next). cond (j == c.args.core) (changed_core c.args.addr next (slice_index c.with_number-stored.result.cells) (core_at old c.args.core)) (core_at old j))
    c.unmarked.ensures)
    (λ x. c.with_number-stored.ensures.bytes x
    ∙ ap (λ (cell : ℕ → ℕ). with_number cell c.args.offset c.args.width c.args.value x) (fun_ext c.copy.ensures.cells))
    (ap stores_alone (sym c.copy.ensures.state) ∙ sym c.stores_alone.ensures ∙ c.if-stores_alone.true)

pub change-requires-clause-past : goal.change-requires-clause-past
change-requires-clause-past c x past =
    let access = c.requires.access.access in
    let long =
    ap (λ (core : CoreState). core.line_length) (state_get c.args.self.now.cores.items c.args.core c.index_mut.result.now access.there c.index_mut.ensures.value)
    ∙ access.coherent.lengths c.args.core access.there in
    let le = subst (λ n. n ≤ x) long past in
    c.with_number-stored.ensures.bytes x
    ∙ number-past (slice_index c.copy.result.now.cells) c.args.self.now.machine.line_length c.args.offset c.args.width c.args.value x access.in_line le
    (c.copy.ensures.cells x ∙ (access.coherent.in_place c.args.core c.args.addr).cells x le)

pub claim-requires-clause-sends : goal.claim-requires-clause-sends
claim-requires-clause-sends c =
    let access = c.requires.access.access in record {
      at = record { there = access.there; line = access.line; coherent = access.coherent };
      past = λ x le. c.with_number.ensures.bytes x
          ∙ number-past (slice_index c.copy.result.now.cells) c.args.self.now.machine.line_length c.args.offset c.args.width c.args.value x access.in_line le
          (c.copy.ensures.cells x ∙ (access.coherent.in_place c.args.core c.args.addr).cells x le);
      may = record { hurts = c.survey-survey.ensures.hurt; free = c.requires.free };
    }

pub claim-requires-clause-may : goal.claim-requires-clause-may
claim-requires-clause-may c =
    let access = c.requires.access.access in
    may_change (bus_in c.args.self.now) c.args.core c.args.addr c.unmarked_if-next.result access.coherent access.there (search rules) (search rules) (search rules)

pub fetch-requires-clause-sends : goal.fetch-requires-clause-sends
fetch-requires-clause-sends c =
    let access = c.requires.access.access in record {
      at = record { there = access.there; line = access.line; coherent = access.coherent };
      past = λ x le. c.with_number-2.ensures.bytes x
          ∙ number-past (slice_index c.committed_line-cells.result) c.args.self.now.machine.line_length c.args.offset c.args.width c.args.value x access.in_line le
          (c.committed_line-cells.ensures x ∙ committed-past (bus_in c.args.self.now) c.args.addr x access.coherent le);
      may = record { hurts = c.survey-survey.ensures.hurt; free = c.requires.free };
    }

pub returns-then-is_valid-clause-bus : goal.returns-then-is_valid-clause-bus
returns-then-is_valid-clause-bus c =
    let held : is_valid (own (bus_in c.args.self.now) c.args.core c.args.addr).state ≡ true =
    ap is_valid (sym c.copy.ensures.state) ∙ sym c.is_valid.ensures ∙ c.if-is_valid.true in
    stored_sent (bus_in c.args.self.now) (bus_in c.claim.new.self) c.args.core c.args.addr c.args.offset c.args.width c.args.value
    (room_at c.args.self.now.cores.items c.args.core c.args.addr) None c.unmarked_if-next.result
    (slice_index c.with_number.result.cells) c.survey-survey.result.alone
    (ap stores_alone (sym c.copy.ensures.state) ∙ sym c.stores_alone.ensures ∙ c.if-stores_alone.false)
    (room_held (bus_in c.args.self.now) c.args.core c.args.addr (room_at c.args.self.now.cores.items c.args.core c.args.addr) held)
    (fun_ext (λ x. c.with_number.ensures.bytes x
    ∙ ap (λ (cell : ℕ → ℕ). with_number cell c.args.offset c.args.width c.args.value x)
    (fun_ext (λ y. c.copy.ensures.cells y ∙ sees-held (bus_in c.args.self.now) c.args.core c.args.addr c.requires.access.access.coherent c.requires.access.access.line held y))))
    c.unmarked_if-next.ensures c.survey-survey.ensures.alone c.claim.ensures

pub returns-clause-bus : goal.returns-clause-bus
returns-clause-bus c =
    stored_sent (bus_in c.args.self.now) (bus_in c.fetch.new.self) c.args.core c.args.addr c.args.offset c.args.width c.args.value
    (room_at c.args.self.now.cores.items c.args.core c.args.addr) (line_at c.args.self.now.cores.items c.args.core c.args.addr (Some c.straight_way-way.result))
    c.unmarked_if-next.result (slice_index c.with_number-2.result.cells) c.survey-survey.result.alone
    (ap stores_alone (sym c.copy.ensures.state) ∙ sym c.stores_alone.ensures ∙ c.if-stores_alone.false)
    (sym c.straight_way-way.ensures.room
    ∙ room_missed (bus_in c.args.self.now) c.args.core c.args.addr (room_at c.args.self.now.cores.items c.args.core c.args.addr)
    (ap is_valid (sym c.copy.ensures.state) ∙ sym c.is_valid.ensures ∙ c.if-is_valid.false))
    (fun_ext (λ x. c.with_number-2.ensures.bytes x
    ∙ ap (λ (cell : ℕ → ℕ). with_number cell c.args.offset c.args.width c.args.value x)
    (fun_ext (λ y. c.committed_line-cells.ensures y
    ∙ sym (sees_committed (bus_in c.args.self.now) c.args.core c.args.addr c.requires.access.access.coherent c.requires.access.access.line c.requires.access.straight y)))))
    c.unmarked_if-next.ensures c.survey-survey.ensures.alone c.fetch.ensures
