use Rattle.std.proofs.Common.{◌∙◌, ap, sym, slice_index, rules}
use Rattle.spec_states.specs.States.{is_valid}
use Rattle.violations.specs.CoreSet.{is_in}
use Rattle.bus_states.proofs.Coherence.{committed-past}
use Rattle.bus_states.proofs.Accesses.{store-within}
use Rattle.spec_bus.specs.Parts.{bus_in}
use Rattle.spec_bus.proofs.Answering.{taken_held, taken_missed}
use Rattle.spec_bus.proofs.Moving.{may_change}
use Rattle.spec_bus.proofs.parts.Parts.take_hold.Goals as goal

pub claim-requires-clause-sends : goal.claim-requires-clause-sends
claim-requires-clause-sends c = record {
  at = record { there = c.requires.there; line = c.requires.line; coherent = c.requires.coherent };
  past = λ x le. c.copy-copy.ensures.cells x ∙ (c.requires.coherent.in_place c.args.core c.args.addr).cells x le;
  may = record { hurts = c.in_ok-next.ensures.may.violates; free = c.in_ok-next.ensures.may.free };
}

pub claim-requires-clause-may : goal.claim-requires-clause-may
claim-requires-clause-may c =
    may_change (bus_in c.args.self.now) c.args.core c.args.addr c.in_ok-next.next c.requires.coherent c.requires.there
    (rw c.in_ok-next.ensures.may.next_is
    (store-within (bus_in c.args.self.now) c.args.core c.args.addr c.args.offset c.args.width c.requires.coherent c.requires.in_line))
    (search rules) c.in_ok-next.ensures.may.has_room

pub fetch-requires-clause-sends : goal.fetch-requires-clause-sends
fetch-requires-clause-sends c = record {
  at = record { there = c.requires.there; line = c.requires.line; coherent = c.requires.coherent };
  past = λ x le. c.committed_line-line.ensures x ∙ committed-past (bus_in c.args.self.now) c.args.addr x c.requires.coherent le;
  may = record { hurts = c.in_ok-next-2.ensures.may.violates; free = c.in_ok-next-2.ensures.may.free };
}

pub fetch-requires-clause-mask : goal.fetch-requires-clause-mask
fetch-requires-clause-mask c =
    rw c.in_ok-next-2.ensures.may.next_is
    (store-within (bus_in c.args.self.now) c.args.core c.args.addr c.args.offset c.args.width c.requires.coherent c.requires.in_line)

pub returns-in_ok-next-clause-taken : goal.returns-in_ok-next-clause-taken
returns-in_ok-next-clause-taken c =
    taken_held (bus_in c.args.self.now) (bus_in c.claim.new.self) c.args.core c.args.addr c.args.offset c.args.width _ c.in_ok-next.next (slice_index c.copy-copy.result.now.cells) (is_in c.in_ok-next.hurt)
    c.requires.coherent c.requires.line
    (rw (← c.copy-copy.ensures.state, ← c.copy-copy.ensures.marks) (sym c.owns_line.ensures ∙ c.if-owns_line.false))
    (ap is_valid (sym c.copy-copy.ensures.state) ∙ sym c.is_valid.ensures ∙ c.if-is_valid.true)
    c.in_ok-next.ensures.may c.copy-copy.ensures.cells c.claim.ensures

pub returns-in_ok-next-2-clause-taken : goal.returns-in_ok-next-2-clause-taken
returns-in_ok-next-2-clause-taken c =
    taken_missed c.args.self.now (bus_in c.fetch.new.self) c.args.core c.args.addr c.args.offset c.args.width c.in-Some.way c.core.result.now c.in_ok-next-2.next (slice_index c.committed_line-line.result) (is_in c.in_ok-next-2.hurt)
    c.core.ensures.is (sym c.victim.ensures.value ∙ c.in-Some.is) c.requires.coherent c.requires.line
    (rw (← c.copy-copy.ensures.state, ← c.copy-copy.ensures.marks) (sym c.owns_line.ensures ∙ c.if-owns_line.false))
    (ap is_valid (sym c.copy-copy.ensures.state) ∙ sym c.is_valid.ensures ∙ c.if-is_valid.false)
    c.in_ok-next-2.ensures.may c.committed_line-line.ensures c.fetch.ensures
