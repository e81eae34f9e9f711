use Rattle.std.proofs.Common.{◌≡◌, ◌+◌, List, ℕ, length, sym, ap, subst, ◌∙◌, arith}
use Rattle.rv32_exec.specs.declared.sequential.End.TheVariants.{Done}
use Rattle.rv32_exec.specs.Sequential.{SequentialResult}
use Rattle.rv32_exec.proofs.Epochs.{first_epochs-none}
use Rattle.epoch_paths.specs.InOrder.{IsInOrder}
use Rattle.epoch_paths.specs.KeptPieces.{AreBefore}
use Rattle.epoch_paths.specs.Stored.{piece_in}
use Rattle.epoch_paths.proofs.InOrder.{all_by_end, all_by_last}
use Rattle.epoch_paths.proofs.Noting.{all_are_stores, none_stored}
use Rattle.epoch_paths.proofs.stores.run_all.Goals as goal

pub loop-epoch-init : goal.loop-epoch-init
loop-epoch-init c = record {
  done = first_epochs-none c.args.image.now ∙ ap (λ (m : List ℕ). let r : SequentialResult = record { end = Done 0; bytes = m } in r) (sym c.requires.memory);
  size = ap length c.requires.memory ∙ c.epochs-epoch-end.ensures.limits.byte_count;
  long = c.requires.long;
  kept = none_stored c.args.image.now (piece_in c.args.pieces c.args.image.now) c.args.noted.now.list.items c.requires.list;
  fresh = λ a. omega (arith, c.requires.none a);
}

pub returns-then-not-branch : goal.returns-then-not-branch
returns-then-not-branch c =
    let image = c.args.image.now in
    let epoch = c.loop-epoch.epoch in
    let order : IsInOrder image epoch = ap (λ (r : SequentialResult). r.end) c.loop-epoch.invariant.done in
    all_are_stores image (piece_in c.args.pieces image) (epoch + 1) c.follow.new.noted.list.items
    (all_by_last image epoch (omega (arith, c.loop-epoch-test.true, c.epochs-epoch-end.ensures.epochs)) order (c.in_ok-follow.ensures.ends c.if-not-branch.true))
    c.in_ok-follow.ensures.kept

pub returns : goal.returns
returns c =
    let image = c.args.image.now in
    let last : c.loop-epoch.epoch ≡ image.epochs = omega (arith, c.epochs-epoch-end.ensures.epochs) in
    let order : IsInOrder image image.epochs = subst (λ n. IsInOrder image n) last (ap (λ (r : SequentialResult). r.end) c.loop-epoch.invariant.done) in
    all_are_stores image (piece_in c.args.pieces image) image.epochs c.loop-epoch.noted.list.items (all_by_end image order)
    (subst (λ n. AreBefore image (piece_in c.args.pieces image) n c.loop-epoch.noted.list.items) last c.loop-epoch.invariant.kept)
