use Rattle.std.proofs.Common.{◌≡◌, List, ℕ, sym, ap, subst, ◌∙◌, arith}
use Rattle.std.proofs.lemmas.Bool.{not-true}
use Rattle.rv32_exec.specs.declared.sequential.End.TheVariants.{Done}
use Rattle.rv32_exec.specs.Sequential.{SequentialResult}
use Rattle.rv32_exec.proofs.Epochs.{first_epochs-none}
use Rattle.epoch_paths.specs.InOrder.{IsInOrder}
use Rattle.dependences.specs.Kept.{AreKept, IsLastWriter}
use Rattle.epoch_paths.proofs.InOrder.{all_by_end, all_by_last}
use Rattle.dependences.proofs.nearest.run_all.Goals as goal

pub loop-epoch-init : goal.loop-epoch-init
loop-epoch-init c = record {
  done = first_epochs-none c.args.image.now ∙ ap (λ (m : List ℕ). let r : SequentialResult = record { end = Done 0; bytes = m } in r) (sym c.requires.memory);
  kept = record {
    long = c.requires.long;
    writer = λ a. subst (λ w. IsLastWriter c.args.image.now 0 a w) (sym (c.requires.none a)) (λ d low stores. absurd (omega (arith, low)));
    least = λ k x. let before = x.before in absurd (omega (arith, before));
  };
}

pub returns-then-not-followed : goal.returns-then-not-followed
returns-then-not-followed c =
    let image = c.args.image.now in
    let epoch = c.loop-epoch.epoch in
    let order : IsInOrder image epoch = ap (λ (r : SequentialResult). r.end) c.loop-epoch.invariant.done in
    record {
      all = all_by_last image epoch (omega (arith, c.loop-epoch-test.true, c.epochs-epoch-end.ensures.epochs)) order
          (c.follow-followed.ensures.ends (not-true c.follow-followed.result.goes_on c.if-not-followed.true));
      kept = c.follow-followed.ensures.kept;
    }

pub returns : goal.returns
returns c =
    let image = c.args.image.now in
    let last : c.loop-epoch.epoch ≡ image.epochs = omega (arith, c.epochs-epoch-end.ensures.epochs) in
    let order : IsInOrder image image.epochs = subst (λ n. IsInOrder image n) last (ap (λ (r : SequentialResult). r.end) c.loop-epoch.invariant.done) in
    rw c.epochs.ensures.epochs record { all = all_by_end image order; kept = subst (λ n. AreKept image n c.loop-epoch.writers c.loop-epoch.nearest) last c.loop-epoch.invariant.kept }
