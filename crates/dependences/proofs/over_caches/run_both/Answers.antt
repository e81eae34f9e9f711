use Rattle.std.proofs.Common.{◌≡◌, ◌+◌, false, length, sym, ap, subst, ◌∙◌, arith}
use Rattle.rv32_exec.specs.Sequential.{SequentialResult}
use Rattle.epoch_paths.specs.InOrder.{IsInOrder}
use Rattle.epoch_paths.specs.Kept.{IsNext}
use Rattle.dependences.specs.KeptRun.{IsRunKept}
use Rattle.dependences.specs.KeptTouches.{AreClear}
use Rattle.dependences.specs.KeptWatch.{IsWatchKept}
use Rattle.dependences.proofs.Caching.{clear_first, clear_more, none_of}
use Rattle.epoch_paths.proofs.InOrder.{all_by_end}
use Rattle.dependences.proofs.Ending.{left_first, left_next}
use Rattle.dependences.proofs.over_caches.run_both.Goals as goal

pub loop-epoch-init : goal.loop-epoch-init
loop-epoch-init g c = record {
  before = left_first c.args.image.now c.args.memory.now c.requires.memory;
  size = ap length c.requires.memory ∙ c.epochs-epoch-end.ensures.limits.byte_count;
  flow = c.requires.flow;
  watch = c.requires.watch;
  clear = clear_first c.args.image.now c.args.cores;
}

pub loop-epoch-preserved : goal.loop-epoch-preserved
loop-epoch-preserved g c =
    let image = c.args.image.now in
    let epoch = c.loop-epoch.epoch in
    let looked = c.in_ok-looked.looked in
    let none = none_of looked.found (sym c.is_some.ensures ∙ c.if-is_some.false) in
    record {
      before = subst (IsNext image (epoch + 1) c.follow_both.new.memory) c.if-not-looked.false c.in_ok-looked.ensures.next;
      size = c.follow_both.auto.memory ∙ c.loop-epoch.invariant.size;
      flow = c.in_ok-looked.ensures.flow;
      watch = c.in_ok-looked.ensures.watch none;
      clear = clear_more image c.args.cores epoch (c.in_ok-looked.ensures.none none) c.loop-epoch.invariant.clear;
    }

pub returns-then-is_some-clause-left : goal.returns-then-is_some-clause-left
returns-then-is_some-clause-left g c =
    left_next c.args.image.now c.loop-epoch.epoch c.follow_both.new.memory c.in_ok-looked.looked.goes_on (omega (arith, c.loop-epoch-test.true, c.epochs-epoch-end.ensures.epochs))
    (ap (λ (r : SequentialResult). r.end) c.loop-epoch.invariant.before) c.in_ok-looked.ensures.next

pub returns-then-not-looked-clause-left : goal.returns-then-not-looked-clause-left
returns-then-not-looked-clause-left g c =
    let image = c.args.image.now in
    let epoch = c.loop-epoch.epoch in
    left_next image epoch c.follow_both.new.memory false (omega (arith, c.loop-epoch-test.true, c.epochs-epoch-end.ensures.epochs)) (ap (λ (r : SequentialResult). r.end) c.loop-epoch.invariant.before)
    (subst (IsNext image (epoch + 1) c.follow_both.new.memory) c.if-not-looked.true c.in_ok-looked.ensures.next)

pub returns-then-not-looked-clause-all : goal.returns-then-not-looked-clause-all
returns-then-not-looked-clause-all g c is =
    let image = c.args.image.now in
    let epoch = c.loop-epoch.epoch in
    left_next image epoch c.follow_both.new.memory false (omega (arith, c.loop-epoch-test.true, c.epochs-epoch-end.ensures.epochs)) (ap (λ (r : SequentialResult). r.end) c.loop-epoch.invariant.before)
    (subst (IsNext image (epoch + 1) c.follow_both.new.memory) c.if-not-looked.true c.in_ok-looked.ensures.next)

pub returns-then-not-looked-clause-clear : goal.returns-then-not-looked-clause-clear
returns-then-not-looked-clause-clear g c is =
    clear_more c.args.image.now c.args.cores c.loop-epoch.epoch
    (c.in_ok-looked.ensures.none (none_of c.in_ok-looked.looked.found (sym c.is_some.ensures ∙ c.if-is_some.false))) c.loop-epoch.invariant.clear

pub returns-then-not-looked-clause-watch : goal.returns-then-not-looked-clause-watch
returns-then-not-looked-clause-watch g c is = c.in_ok-looked.ensures.watch (none_of c.in_ok-looked.looked.found (sym c.is_some.ensures ∙ c.if-is_some.false))

pub returns-clause-left : goal.returns-clause-left
returns-clause-left g c =
    let image = c.args.image.now in
    let last : c.loop-epoch.epoch ≡ image.epochs = omega (arith, c.epochs-epoch-end.ensures.epochs) in
    let order : IsInOrder image image.epochs = subst (λ n. IsInOrder image n) last (ap (λ (r : SequentialResult). r.end) c.loop-epoch.invariant.before) in
    rw c.epochs.ensures.epochs (all_by_end image order)

pub returns-clause-all : goal.returns-clause-all
returns-clause-all g c is =
    let image = c.args.image.now in
    let last : c.loop-epoch.epoch ≡ image.epochs = omega (arith, c.epochs-epoch-end.ensures.epochs) in
    let order : IsInOrder image image.epochs = subst (λ n. IsInOrder image n) last (ap (λ (r : SequentialResult). r.end) c.loop-epoch.invariant.before) in
    rw c.epochs.ensures.epochs (all_by_end image order)

pub returns-clause-flow : goal.returns-clause-flow
returns-clause-flow g c =
    let image = c.args.image.now in
    let last : c.loop-epoch.epoch ≡ image.epochs = omega (arith, c.epochs-epoch-end.ensures.epochs) in
    rw c.epochs.ensures.epochs (subst (λ n. IsRunKept g.F.Found.keeps image n c.loop-epoch.both.first c.loop-epoch.lengths.items) last c.loop-epoch.invariant.flow)

pub returns-clause-clear : goal.returns-clause-clear
returns-clause-clear g c is =
    let image = c.args.image.now in
    let last : c.loop-epoch.epoch ≡ image.epochs = omega (arith, c.epochs-epoch-end.ensures.epochs) in
    rw c.epochs.ensures.epochs (subst (λ n. AreClear image c.args.cores n) last c.loop-epoch.invariant.clear)

pub returns-clause-watch : goal.returns-clause-watch
returns-clause-watch g c is =
    let image = c.args.image.now in
    let last : c.loop-epoch.epoch ≡ image.epochs = omega (arith, c.epochs-epoch-end.ensures.epochs) in
    rw c.epochs.ensures.epochs (subst (λ n. IsWatchKept image c.args.cores c.loop-epoch.both.second n) last c.loop-epoch.invariant.watch)
