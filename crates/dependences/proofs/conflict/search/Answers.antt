use Rattle.std.proofs.Common.{◌≡◌, ◌-◌, ℕ, List, length, sym, ap, subst, ◌∙◌, arith}
use Rattle.rv32_exec.specs.declared.sequential.End.TheVariants.{Done}
use Rattle.rv32_exec.specs.Sequential.{SequentialResult}
use Rattle.rv32_exec.proofs.Epochs.{first_epochs-none}
use Rattle.dependences.specs.Conflict.{first_beside}
use Rattle.dependences.specs.Kept.{ConflictsBefore}
use Rattle.dependences.proofs.Ending.{meets_conflicts, none_at_all, none_further, none_more}
use Rattle.dependences.proofs.conflict.search.Goals as goal

pub loop-later-init : goal.loop-later-init
loop-later-init c = record {
  searched = record {
    before = first_epochs-none c.args.image.now ∙ ap (λ (m : List ℕ). let r : SequentialResult = record { end = Done 0; bytes = m } in r) (sym c.requires.memory);
    low = omega arith;
    none = c.requires.before;
  };
  size = ap length c.requires.memory ∙ c.epochs-later-end.ensures.limits.byte_count;
  alone = c.requires.alone;
  marks = c.requires.marks;
}

pub returns-then-first-ran-clause-none : goal.returns-then-first-ran-clause-none
returns-then-first-ran-clause-none c found =
    let first : c.saturating_sub-first.result ≡ first_beside c.args.cores c.loop-later.later = c.saturating_sub-first.ensures ∙ ap (λ n. c.loop-later.later - n) c.saturating_sub.ensures in
    none_further c.args.image.now c.args.cores c.args.ran c.requires.all c.loop-later.later (rw (← first) c.if-first-ran.true) c.loop-later.invariant.searched.none

pub returns-then-meets_writer-clause-found : goal.returns-then-meets_writer-clause-found
returns-then-meets_writer-clause-found c found =
    let first : c.saturating_sub-first.result ≡ first_beside c.args.cores c.loop-later.later = c.saturating_sub-first.ensures ∙ ap (λ n. c.loop-later.later - n) c.saturating_sub.ensures in
    let met = rw (c.copy_from_slice.ensures.after, c.copy_from_slice-in-loop-later.ensures.after) at (c.meets_writer.ensures.found c.if-meets_writer.true) in
    meets_conflicts c.args.image.now c.args.cores c.args.ran c.requires.all c.loop-later.later c.saturating_sub-first.result c.run_between.new.memory c.args.writers.now
    (omega arith) (omega (arith, c.loop-later-test.true, c.epochs-later-end.ensures.epochs)) first c.if-first-ran.false c.run_between.ensures.done c.requires.writer met

pub loop-later-preserved : goal.loop-later-preserved
loop-later-preserved c =
    let first : c.saturating_sub-first.result ≡ first_beside c.args.cores c.loop-later.later = c.saturating_sub-first.ensures ∙ ap (λ n. c.loop-later.later - n) c.saturating_sub.ensures in
    let unmet = rw (c.copy_from_slice.ensures.after, c.copy_from_slice-in-loop-later.ensures.after) at (c.meets_writer.ensures.none c.if-meets_writer.false) in
    record {
      searched = record {
        before = c.run_between.ensures.done;
        low = omega (arith, first);
        none = none_more c.args.image.now c.args.cores c.args.ran c.requires.all c.loop-later.later c.saturating_sub-first.result c.run_between.new.memory c.args.writers.now
            (omega arith) first c.run_between.ensures.done c.requires.writer unmet c.loop-later.invariant.searched.none;
      };
      size = c.run_between.ensures.size;
      alone = c.meets_writer.auto.memory ∙ (c.copy_from_slice.ensures.len ∙ c.loop-later.invariant.alone);
      marks = c.meets_writer.auto.writers ∙ (c.copy_from_slice-in-loop-later.ensures.len ∙ c.loop-later.invariant.marks);
    }

pub returns-clause-none : goal.returns-clause-none
returns-clause-none c found =
    let last : c.loop-later.later ≡ c.args.image.now.epochs = omega (arith, c.requires.all.most, c.loop-later.auto.later, c.epochs-later-end.ensures.epochs, c.loop-later-test.false) in
    none_at_all c.args.image.now c.args.cores (subst (λ n. ConflictsBefore c.args.image.now c.args.cores n → ⊥) last c.loop-later.invariant.searched.none)
