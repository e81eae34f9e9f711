use Rattle.std.proofs.Common.{◌≡◌, ◌≤◌, ℕ, false, sym, subst, ◌∙◌}
use Rattle.std.proofs.lemmas.Result.{IfOk-weaker}
use Rattle.dependences.specs.Conflict.{Conflict, ConflictInOrder}
use Rattle.dependences.specs.Kept.{ConflictsBefore}
use Rattle.dependences.specs.Laws.{NeverOverBytes}
use Rattle.dependences.proofs.Caching.{alone}
use Rattle.dependences.proofs.Ending.{far_before, near_conflicts, none_at_all}
use Rattle.dependences.proofs.Showing.{bytes_shown}
use Rattle.dependences.proofs.Nevers.{never_bytes_on_fewer}
use Rattle.dependences.proofs.conflict.conflicts_over_bytes.Goals as goal

pub returns-then-is_near-clause-found : goal.returns-then-is_near-clause-found
returns-then-is_near-clause-found c found =
    near_conflicts c.args.image.now c.args.cores c.run_all-ran.result.epochs c.run_all-ran.ensures.all c.run_all-ran.result.nearest c.run_all-ran.ensures.kept.least
    (sym c.is_near.ensures ∙ c.if-is_near.true)

pub returns-then-ran-epochs-clause-none : goal.returns-then-ran-epochs-clause-none
returns-then-ran-epochs-clause-none c found =
    let far = far_before c.args.image.now c.args.cores c.run_all-ran.result.epochs c.run_all-ran.ensures.all c.run_all-ran.result.nearest c.run_all-ran.ensures.kept.least
    (sym c.is_near.ensures ∙ c.if-is_near.false) in
    none_at_all c.args.image.now c.args.cores (subst (λ n. ConflictsBefore c.args.image.now c.args.cores n → ⊥) (c.if-ran-epochs.true ∙ c.epochs.ensures.epochs) far)

pub returns-then-ran-epochs-clause-paths : goal.returns-then-ran-epochs-clause-paths
returns-then-ran-epochs-clause-paths c found =
    let far = far_before c.args.image.now c.args.cores c.run_all-ran.result.epochs c.run_all-ran.ensures.all c.run_all-ran.result.nearest c.run_all-ran.ensures.kept.least
    (sym c.is_near.ensures ∙ c.if-is_near.false) in
    bytes_shown c.args.image.now c.args.cores c.epochs.ensures.limits
    (none_at_all c.args.image.now c.args.cores (subst (λ n. ConflictsBefore c.args.image.now c.args.cores n → ⊥) (c.if-ran-epochs.true ∙ c.epochs.ensures.epochs) far))

pub conflicts_past_end-requires-clause-before : goal.conflicts_past_end-requires-clause-before
conflicts_past_end-requires-clause-before c =
    far_before c.args.image.now c.args.cores c.run_all-ran.result.epochs c.run_all-ran.ensures.all c.run_all-ran.result.nearest c.run_all-ran.ensures.kept.least
    (sym c.is_near.ensures ∙ c.if-is_near.false)

pub returns-clause-paths : goal.returns-clause-paths
returns-clause-paths c =
    IfOk-weaker c.conflicts_past_end.result (λ found. found ≡ false → ConflictInOrder c.args.image.now c.args.cores → ⊥)
    (λ found. found ≡ false → Conflict c.args.image.now c.args.cores → ⊥)
    (λ found none is. bytes_shown c.args.image.now c.args.cores c.epochs.ensures.limits (none is)) c.conflicts_past_end.ensures.none

pub returns-then-ran-epochs-clause-never : goal.returns-then-ran-epochs-clause-never
returns-then-ran-epochs-clause-never c found =
    let far = far_before c.args.image.now c.args.cores c.run_all-ran.result.epochs c.run_all-ran.ensures.all c.run_all-ran.result.nearest c.run_all-ran.ensures.kept.least
    (sym c.is_near.ensures ∙ c.if-is_near.false) in
    never_bytes_on_fewer c.args.image.now c.args.cores c.epochs.ensures.limits
    (none_at_all c.args.image.now c.args.cores (subst (λ n. ConflictsBefore c.args.image.now c.args.cores n → ⊥) (c.if-ran-epochs.true ∙ c.epochs.ensures.epochs) far))

pub returns-clause-never : goal.returns-clause-never
returns-clause-never c =
    IfOk-weaker c.conflicts_past_end.result (λ found. found ≡ false → ConflictInOrder c.args.image.now c.args.cores → ⊥)
    (λ found. found ≡ false → (fewer : ℕ) → fewer ≤ c.args.cores → NeverOverBytes c.args.image.now fewer)
    (λ found none is. never_bytes_on_fewer c.args.image.now c.args.cores c.epochs.ensures.limits (none is)) c.conflicts_past_end.ensures.none

pub returns-then-cores-lt2-clause-none : goal.returns-then-cores-lt2-clause-none
returns-then-cores-lt2-clause-none c none conflict = alone c.args.image.now c.args.cores conflict.earlier conflict.later c.if-cores-lt2.true conflict.beside

pub returns-then-cores-lt2-clause-paths : goal.returns-then-cores-lt2-clause-paths
returns-then-cores-lt2-clause-paths c none conflict = alone c.args.image.now c.args.cores conflict.earlier conflict.later c.if-cores-lt2.true conflict.beside

pub returns-then-cores-lt2-clause-never : goal.returns-then-cores-lt2-clause-never
returns-then-cores-lt2-clause-never c none =
    never_bytes_on_fewer c.args.image.now c.args.cores c.size-size.ensures.limits
    (λ conflict. alone c.args.image.now c.args.cores conflict.earlier conflict.later c.if-cores-lt2.true conflict.beside)
