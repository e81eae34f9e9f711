use Rattle.std.proofs.Common.{◌∙◌, ℕ, Some, slice_index, sym, ap}
use Rattle.std.proofs.Math.Path.{fun_ext}
use Rattle.memory_bytes.specs.Bytes.{number_at}
use Rattle.spec_states.specs.States.{is_valid}
use Rattle.bus_states.proofs.Coherence.{sees-held, committed-past}
use Rattle.spec_bus.specs.Parts.{bus_in, line_at, room_at}
use Rattle.spec_bus.proofs.StraightMoves.{sees_committed, loaded_missed}
use Rattle.spec_bus.proofs.parts.Parts.straight_load.Goals as goal

pub returns-then-is_valid-clause-value : goal.returns-then-is_valid-clause-value
returns-then-is_valid-clause-value c =
    c.number_at.ensures.value
    ∙ ap (λ (line : ℕ → ℕ). number_at line c.args.offset c.args.width)
    (fun_ext (λ x. c.copy.ensures.cells x
    ∙ sees-held (bus_in c.args.self.now) c.args.core c.args.addr c.requires.access.access.coherent c.requires.access.access.line
    (ap is_valid (sym c.copy.ensures.state) ∙ sym c.is_valid.ensures ∙ c.if-is_valid.true) x))

pub fetch-requires-clause-sends : goal.fetch-requires-clause-sends
fetch-requires-clause-sends c =
    let access = c.requires.access.access in record {
      at = record { there = access.there; line = access.line; coherent = access.coherent };
      past = λ x le. c.committed_line-cells.ensures x ∙ committed-past (bus_in c.args.self.now) c.args.addr x access.coherent le;
      may = record { hurts = c.survey-survey.ensures.hurt; free = c.requires.free };
    }

pub returns-clause-bus : goal.returns-clause-bus
returns-clause-bus c =
    loaded_missed (bus_in c.args.self.now) (bus_in c.fetch.new.self) c.args.core c.args.addr (room_at c.args.self.now.cores.items c.args.core c.args.addr)
    (line_at c.args.self.now.cores.items c.args.core c.args.addr (Some c.straight_way-way.result)) c.unmarked_if-next.result (slice_index c.committed_line-cells.result) c.survey-survey.result.alone
    (ap is_valid (sym c.copy.ensures.state) ∙ sym c.is_valid.ensures ∙ c.if-is_valid.false)
    (sym c.straight_way-way.ensures.room)
    (fun_ext (λ x. c.committed_line-cells.ensures x
    ∙ sym (sees_committed (bus_in c.args.self.now) c.args.core c.args.addr c.requires.access.access.coherent c.requires.access.access.line c.requires.access.straight x)))
    c.unmarked_if-next.ensures c.survey-survey.ensures.alone c.fetch.ensures

pub returns-clause-value : goal.returns-clause-value
returns-clause-value c =
    c.number_at-2.ensures.value
    ∙ ap (λ (line : ℕ → ℕ). number_at line c.args.offset c.args.width)
    (fun_ext (λ x. c.committed_line-cells.ensures x
    ∙ sym (sees_committed (bus_in c.args.self.now) c.args.core c.args.addr c.requires.access.access.coherent c.requires.access.access.line c.requires.access.straight x)))
