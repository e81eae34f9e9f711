use Rattle.std.proofs.Common.{◌≡◌, ◌+◌, ℕ, List, length, sym, ap, subst, ◌∙◌, arith}
use Rattle.rv32_exec.specs.declared.sequential.End.TheVariants.{Done}
use Rattle.rv32_exec.specs.Sequential.{SequentialResult}
use Rattle.rv32_exec.proofs.Epochs.{first_epochs-none}
use Rattle.epoch_paths.specs.InOrder.{IsInOrder}
use Rattle.dependences.specs.Conflict.{first_beside}
use Rattle.epoch_paths.specs.Kept.{IsNext}
use Rattle.dependences.specs.KeptTouches.{AreClear}
use Rattle.dependences.specs.KeptWatch.{IsWatchKept}
use Rattle.dependences.proofs.Caching.{clear_first, clear_more, none_of}
use Rattle.epoch_paths.proofs.InOrder.{all_by_end, all_by_last, all_in_order}
use Rattle.dependences.proofs.InOrder.{low_most}
use Rattle.dependences.proofs.caches.conflict_in_order.Goals as goal

pub loop-epoch-init : goal.loop-epoch-init
loop-epoch-init c = record {
  before = first_epochs-none c.args.image.now ∙ ap (λ (m : List ℕ). let r : SequentialResult = record { end = Done 0; bytes = m } in r) (sym c.requires.memory);
  size = ap length c.requires.memory ∙ c.epochs-epoch-end.ensures.limits.byte_count;
  kept = c.requires.kept;
  clear = clear_first c.args.image.now c.args.cores;
}

pub conflict_of-looked-requires-clause-starts : goal.conflict_of-looked-requires-clause-starts
conflict_of-looked-requires-clause-starts c =
    let image = c.args.image.now in
    let epoch = c.loop-epoch.epoch in
    all_in_order image epoch (first_beside c.args.cores epoch) (ap (λ (r : SequentialResult). r.end) c.loop-epoch.invariant.before) (low_most c.args.cores epoch)

pub loop-epoch-preserved : goal.loop-epoch-preserved
loop-epoch-preserved c =
    let image = c.args.image.now in
    let epoch = c.loop-epoch.epoch in
    let looked = c.conflict_of-looked.result in
    let none = none_of looked.found (sym c.is_some.ensures ∙ c.if-is_some.false) in
    record {
      before = subst (IsNext image (epoch + 1) c.conflict_of-looked.new.memory) c.if-not-looked.false
          (c.conflict_of-looked.ensures.next none c.loop-epoch.invariant.before);
      size = c.conflict_of-looked.auto.memory ∙ c.loop-epoch.invariant.size;
      kept = c.conflict_of-looked.ensures.kept none;
      clear = clear_more image c.args.cores epoch (c.conflict_of-looked.ensures.none none) c.loop-epoch.invariant.clear;
    }

pub returns-then-not-looked-clause-all : goal.returns-then-not-looked-clause-all
returns-then-not-looked-clause-all c is =
    let image = c.args.image.now in
    let epoch = c.loop-epoch.epoch in
    let looked = c.conflict_of-looked.result in
    let none = none_of looked.found (sym c.is_some.ensures ∙ c.if-is_some.false) in
    all_by_last image epoch (omega (arith, c.loop-epoch-test.true, c.epochs-epoch-end.ensures.epochs)) (ap (λ (r : SequentialResult). r.end) c.loop-epoch.invariant.before)
    (subst (IsNext image (epoch + 1) c.conflict_of-looked.new.memory) c.if-not-looked.true
    (c.conflict_of-looked.ensures.next none c.loop-epoch.invariant.before))

pub returns-then-not-looked-clause-none : goal.returns-then-not-looked-clause-none
returns-then-not-looked-clause-none c is =
    clear_more c.args.image.now c.args.cores c.loop-epoch.epoch
    (c.conflict_of-looked.ensures.none (none_of c.conflict_of-looked.result.found (sym c.is_some.ensures ∙ c.if-is_some.false))) c.loop-epoch.invariant.clear

pub returns-then-not-looked-clause-kept : goal.returns-then-not-looked-clause-kept
returns-then-not-looked-clause-kept c is = c.conflict_of-looked.ensures.kept (none_of c.conflict_of-looked.result.found (sym c.is_some.ensures ∙ c.if-is_some.false))

pub returns-clause-all : goal.returns-clause-all
returns-clause-all c is =
    let image = c.args.image.now in
    let last : c.loop-epoch.epoch ≡ image.epochs = omega (arith, c.epochs-epoch-end.ensures.epochs) in
    let order : IsInOrder image image.epochs = subst (λ n. IsInOrder image n) last (ap (λ (r : SequentialResult). r.end) c.loop-epoch.invariant.before) in
    rw c.epochs.ensures.epochs (all_by_end image order)

pub returns-clause-none : goal.returns-clause-none
returns-clause-none c is =
    let image = c.args.image.now in
    let last : c.loop-epoch.epoch ≡ image.epochs = omega (arith, c.epochs-epoch-end.ensures.epochs) in
    rw c.epochs.ensures.epochs (subst (λ n. AreClear image c.args.cores n) last c.loop-epoch.invariant.clear)

pub returns-clause-kept : goal.returns-clause-kept
returns-clause-kept c is =
    let image = c.args.image.now in
    let last : c.loop-epoch.epoch ≡ image.epochs = omega (arith, c.epochs-epoch-end.ensures.epochs) in
    rw c.epochs.ensures.epochs (subst (λ n. IsWatchKept image c.args.cores c.loop-epoch.watch n) last c.loop-epoch.invariant.kept)
