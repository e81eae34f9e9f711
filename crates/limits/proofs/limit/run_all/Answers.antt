use Rattle.std.proofs.Common.{◌≡◌, ◌+◌, List, ℕ, sym, ap, subst, ◌∙◌, arith}
use Rattle.rv32_exec.specs.declared.sequential.End.TheVariants.{Done}
use Rattle.rv32_exec.specs.Sequential.{SequentialResult}
use Rattle.rv32_exec.proofs.Epochs.{first_epochs-none}
use Rattle.epoch_paths.specs.InOrder.{IsInOrder}
use Rattle.epoch_paths.proofs.InOrder.{all_by_end, all_by_last}
use Rattle.limits.proofs.Running.{have_run, kept_none}
use Rattle.limits.proofs.limit.run_all.Goals as goal

pub loop-epoch-init : goal.loop-epoch-init
loop-epoch-init c = record {
  done = first_epochs-none c.args.image.now ∙ ap (λ (m : List ℕ). let r : SequentialResult = record { end = Done 0; bytes = m } in r) (sym c.requires.memory);
  kept = kept_none c.args.image.now c.args.cores c.args.times.now c.requires.long c.requires.commits c.requires.writers;
  waits = search;
}

pub returns-then-not-branch : goal.returns-then-not-branch
returns-then-not-branch c =
    let image = c.args.image.now in
    let epoch = c.loop-epoch.epoch in
    let order : IsInOrder image epoch = ap (λ (r : SequentialResult). r.end) c.loop-epoch.invariant.done in
    have_run image c.args.cores (epoch + 1) c.args.times.now.waits c.follow.new.times (c.in_ok-follow.ensures.waits ∙ c.loop-epoch.invariant.waits)
    (all_by_last image epoch (omega (arith, c.loop-epoch-test.true, c.epochs-epoch-end.ensures.epochs)) order (c.in_ok-follow.ensures.ends c.if-not-branch.true))
    c.in_ok-follow.ensures.kept

pub returns : goal.returns
returns c =
    let image = c.args.image.now in
    let last : c.loop-epoch.epoch ≡ image.epochs = omega (arith, c.epochs-epoch-end.ensures.epochs) in
    let order : IsInOrder image image.epochs = subst (λ n. IsInOrder image n) last (ap (λ (r : SequentialResult). r.end) c.loop-epoch.invariant.done) in
    have_run image c.args.cores c.loop-epoch.epoch c.args.times.now.waits c.loop-epoch.times c.loop-epoch.invariant.waits
    (rw last (all_by_end image order)) c.loop-epoch.invariant.kept
