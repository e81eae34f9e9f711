use Rattle.std.proofs.Common.{◌≡◌, ◌∙◌, ℕ, Some, refl, ap, sym}
use Rattle.std.proofs.Math.Path.{fun_ext}
use Rattle.memory_bytes.specs.Bytes.{number_at}
use Rattle.bus_states.specs.declared.notice.Notice.TheVariants.{Load}
use Rattle.bus_states.specs.Messages.{after_message}
use Rattle.bus_states.specs.Speculative.{load_next}
use Rattle.bus_states.proofs.Coherence.{committed-past}
use Rattle.spec_bus.specs.Parts.{bus_in, line_at}
use Rattle.spec_bus.proofs.Moving.{sees_absent}
use Rattle.spec_bus.proofs.parts.Parts.load_miss.Goals as goal

pub fetch-requires-clause-sends : goal.fetch-requires-clause-sends
fetch-requires-clause-sends c = record {
  at = record { there = c.requires.access.there; line = c.requires.access.line; coherent = c.requires.access.coherent };
  past = λ x le. c.committed_line-line.ensures x ∙ committed-past (bus_in c.args.self.now) c.args.addr x c.requires.access.coherent le;
  may = c.requires.may;
}

pub returns-clause-bus : goal.returns-clause-bus
returns-clause-bus c =
    let next : c.after_own_load-next.result ≡ load_next (bus_in c.args.self.now) c.args.core c.args.addr c.args.offset c.args.width =
    c.after_own_load-next.ensures.table ∙ rw (c.copy-copy.ensures.state, c.copy-copy.ensures.marks, c.requires.alone) refl in
    c.fetch.ensures
    ∙ ap (λ (line : ℕ → ℕ). after_message (bus_in c.args.self.now) (record { notice = Load; sender = c.args.core; addr = c.args.addr; line = line })
    (line_at c.args.self.now.cores.items c.args.core c.args.addr (Some c.args.way)) c.after_own_load-next.result)
    (fun_ext (λ x. c.committed_line-line.ensures x ∙ sym (sees_absent (bus_in c.args.self.now) c.args.core c.args.addr c.requires.access.coherent c.requires.access.line c.requires.absent x)))
    ∙ rw next refl

pub returns-clause-value : goal.returns-clause-value
returns-clause-value c =
    c.number_at.ensures.value
    ∙ ap (λ (line : ℕ → ℕ). number_at line c.args.offset c.args.width)
    (fun_ext (λ x. c.committed_line-line.ensures x ∙ sym (sees_absent (bus_in c.args.self.now) c.args.core c.args.addr c.requires.access.coherent c.requires.access.line c.requires.absent x)))
