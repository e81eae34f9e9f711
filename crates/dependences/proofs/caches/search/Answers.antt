use Rattle.std.proofs.Common.{◌≡◌, ℕ, List, length, sym, ap, subst, ◌∙◌, arith}
use Rattle.rv32_exec.specs.declared.sequential.End.TheVariants.{Done}
use Rattle.rv32_exec.specs.Sequential.{SequentialResult}
use Rattle.rv32_exec.proofs.Epochs.{first_epochs-none}
use Rattle.dependences.specs.KeptTouches.{AreClear, AreTouchesKept}
use Rattle.dependences.proofs.Ending.{memory_there}
use Rattle.dependences.proofs.Caching.{clear_more, never_at_all, never_further, none_of}
use Rattle.dependences.proofs.caches.search.Goals as goal

pub loop-later-init : goal.loop-later-init
loop-later-init c = record {
  before = first_epochs-none c.args.image.now ∙ ap (λ (m : List ℕ). let r : SequentialResult = record { end = Done 0; bytes = m } in r) (sym c.requires.memory);
  low = omega arith;
  size = ap length c.requires.memory ∙ c.epochs-later-end.ensures.limits.byte_count;
  alone = c.requires.alone;
  kept = c.requires.kept;
  clear = c.requires.clear;
}

pub returns-then-first-ran-clause-none : goal.returns-then-first-ran-clause-none
returns-then-first-ran-clause-none c found =
    let first = c.first_beside-first.ensures in
    never_further c.args.image.now c.args.cores c.args.ran c.loop-later.later c.loop-later.watch.touches c.requires.all (rw (← first) c.if-first-ran.true) c.loop-later.invariant.clear
    c.loop-later.invariant.kept.touches

pub conflict_of-found-requires-clause-memory : goal.conflict_of-found-requires-clause-memory
conflict_of-found-requires-clause-memory c =
    let first = c.first_beside-first.ensures in
    c.copy_from_slice.ensures.after
    ∙ sym (memory_there c.args.image.now c.args.cores c.args.ran c.requires.all c.loop-later.later c.first_beside-first.result c.run_between.new.memory
    (omega arith) (omega (arith, c.loop-later-test.true, c.epochs-later-end.ensures.epochs)) first c.run_between.ensures.done)

pub loop-later-preserved : goal.loop-later-preserved
loop-later-preserved c =
    let first = c.first_beside-first.ensures in
    let none = none_of c.conflict_of-found.result.found (sym c.is_some.ensures ∙ c.if-is_some.false) in
    record {
      before = c.run_between.ensures.done;
      low = omega (arith, first);
      size = c.run_between.ensures.size;
      alone = c.conflict_of-found.auto.memory ∙ (c.copy_from_slice.ensures.len ∙ c.loop-later.invariant.alone);
      kept = c.conflict_of-found.ensures.kept none;
      clear = clear_more c.args.image.now c.args.cores c.loop-later.later (c.conflict_of-found.ensures.none none) c.loop-later.invariant.clear;
    }

pub returns-clause-none : goal.returns-clause-none
returns-clause-none c none =
    let last : c.loop-later.later ≡ c.args.image.now.epochs = omega (arith, c.requires.all.most, c.loop-later.auto.later, c.epochs-later-end.ensures.epochs, c.loop-later-test.false) in
    never_at_all c.args.image.now c.args.cores c.loop-later.watch.touches (subst (λ n. AreClear c.args.image.now c.args.cores n) last c.loop-later.invariant.clear)
    (subst (λ n. AreTouchesKept c.args.image.now c.args.cores n c.loop-later.watch.touches) last c.loop-later.invariant.kept.touches)
