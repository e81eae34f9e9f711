use Rattle.std.proofs.Common.{◌≡◌, ◌-◌, ◌+◌, ◌≤◌, ℕ, length, slice_index}
use Rattle.epoch_paths.specs.KeptPieces.{AreNoted}
use Rattle.epoch_paths.specs.Stored.{piece_in}
use Rattle.epoch_paths.proofs.Noting.{Storing}
use Rattle.epoch_paths.proofs.stores.follow.Given as goal

abbrev pub invariant-accesses : goal.invariant-accesses
invariant-accesses l = record {
  storing : Storing l.image (piece_in l.pieces l.image) l.epoch l.memory l.hart l.noted.list.items;
  within : l.hart.done ≤ l.image.limit;
  long : length l.noted.last.items ≡ length l.fn.noted.last.items;
  fresh : (a : ℕ) → slice_index l.noted.last.items a ≤ l.epoch + 1;
  noted : AreNoted l.epoch l.noted.last.items l.noted.list.items;
}

abbrev pub decreases-accesses : goal.decreases-accesses
decreases-accesses l = l.image.limit + 1 - l.hart.done
