use Rattle.std.proofs.Common.{◌∙◌, ℕ, List, ap, slice_index, refl}
use Rattle.spec_states.specs.States.{is_modified}
use Rattle.bus_states.specs.Bus.{memory_line}
use Rattle.spec_bus.specs.Parts.{bus_in}
use Rattle.spec_bus.proofs.Surveys.{committed_none, committed_more}
use Rattle.spec_bus.proofs.parts.Parts.committed_line.Goals as goal
use Rattle.spec_bus.proofs.parts.Parts.committed_line.Goals.{then-is_modified, else-is_modified}

pub loop-k-init : goal.loop-k-init
loop-k-init c x =
    c.memory_line-line.ensures x
    ∙ ap (λ (memory : List ℕ). memory_line c.args.self.now.machine.line_length (slice_index memory) c.args.addr x) c.deref.ensures.value
    ∙ committed_none _ _ x

pub loop-k-preserved : goal.loop-k-preserved
loop-k-preserved c =
    committed_more c.loop-k.k (λ k. ((bus_in c.args.self.now).core k).copy c.args.addr) (memory_line c.args.self.now.machine.line_length (bus_in c.args.self.now).memory c.args.addr)
    c.is_modified.result c.copy-copy.result.now.cells c.if-is_modified.line c.loop-k.line (c.is_modified.ensures ∙ ap is_modified c.copy-copy.ensures.state) c.copy-copy.ensures.cells c.loop-k.invariant
    (elim c.if-is_modified.branch [
      | then-is_modified w ↦ rw (w.line-is, w.if-is_modified.true) refl
      | else-is_modified w ↦ rw (w.line-is, w.if-is_modified.false) refl
    ])
