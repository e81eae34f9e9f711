use Rattle.std.proofs.Common.{◌≡◌, ◌≤◌, ℕ, length, slice_index}
use Rattle.rv32_exec.specs.declared.sequential.End.TheVariants.{Done}
use Rattle.rv32_exec.specs.Sequential.{first_epochs}
use Rattle.epoch_paths.specs.KeptPieces.{AreBefore}
use Rattle.epoch_paths.specs.Stored.{piece_in}
use Rattle.epoch_paths.proofs.stores.run_all.Given as goal

-- the epochs so far are done
abbrev pub invariant-loop-epoch : goal.invariant-loop-epoch
invariant-loop-epoch l = record {
  done : first_epochs l.image l.epoch ≡ record { end = Done l.epoch; bytes = l.memory };
  size : length l.memory ≡ l.image.size;
  long : length l.noted.last.items ≡ piece_in l.pieces l.image l.image.size;
  kept : AreBefore l.image (piece_in l.pieces l.image) l.epoch l.noted.list.items;
  fresh : (a : ℕ) → slice_index l.noted.last.items a ≤ l.epoch;
}
