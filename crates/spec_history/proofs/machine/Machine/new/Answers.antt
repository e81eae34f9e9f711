use Rattle.std.proofs.Common.{rules, ◌≡◌, cond, Some, None, length, slice_index, refl, sym, ap, ◌∙◌, eq-eqb, ne_eqb}
use Rattle.rv32_exec.specs.declared.sequential.End.TheVariants.{Done}
use Rattle.spec_history.specs.FlatState.{end_at}
use Rattle.spec_history.specs.Machine.{cores_of}
use Rattle.spec_history.proofs.CodedCores.Parts.{same_state}
use Rattle.spec_history.proofs.Replay.Reaching.{idle_states}
use Rattle.spec_history.proofs.machine.Machine.new.Goals as goal
use Rattle.spec_history.proofs.machine.Machine.new.Goals.{then-epochs-eq0, else-epochs-eq0}

pub returns-clause-state : goal.returns-clause-state
returns-clause-state c =
    let image = c.args.image.now in
    let items : c.in_ok-committed.committed.items ≡ image.bytes = search rules in
    let end : c.if-epochs-eq0.end ≡ end_at image 0 = elim c.if-epochs-eq0.branch [
      | then-epochs-eq0 w ↦ w.end-is ∙ sym (ap (λ b. cond b (Some (Done 0)) None) (eq-eqb 0 image.epochs (sym w.if-epochs-eq0.true ∙ c.epochs.ensures.epochs)))
      | else-epochs-eq0 w ↦ w.end-is ∙ sym (ap (λ b. cond b (Some (Done 0)) None) (ne_eqb 0 image.epochs (λ e. w.if-epochs-eq0.false (c.epochs.ensures.epochs ∙ sym e))))
    ] in
    same_state (λ a. slice_index c.in_ok-committed.committed.items a) (λ a. slice_index image.bytes a) 0 0 0 0 0 0 c.if-epochs-eq0.end (end_at image 0) (cores_of c.in_ok-cores.cores.items) (λ _. None)
    (λ a. ap (λ xs. slice_index xs a) items) refl refl refl end (idle_states c.in_ok-cores.cores.items c.in_ok-cores.ensures.idle)

pub returns-clause-fit : goal.returns-clause-fit
returns-clause-fit c =
    let image = c.args.image.now in
    let items : c.in_ok-committed.committed.items ≡ image.bytes = search rules in
    let same : c.in_ok-image.image ≡ image = c.in_ok-image.ensures in
    rw same (record {
      image = c.epochs.ensures.limits;
      committed = ap length items ∙ c.epochs.ensures.limits.byte_count;
      cores = record { each = λ k core at. (c.in_ok-cores.ensures.idle.each k core at).1 image };
    })
