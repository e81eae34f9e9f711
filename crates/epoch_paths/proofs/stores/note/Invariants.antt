use Rattle.std.proofs.Common.{◌≡◌, ◌≤◌, ◌+◌, ℕ, length, slice_index}
use Rattle.epoch_paths.specs.KeptPieces.{AreMore, AreNoted, IsPieceOf}
use Rattle.epoch_paths.specs.Stored.{piece_in}
use Rattle.epoch_paths.proofs.stores.note.Given as goal

abbrev pub invariant-loop-i : goal.invariant-loop-i
invariant-loop-i l = record {
  long : length l.noted.last.items ≡ length l.initial.noted.last.items;
  fresh : (a : ℕ) → slice_index l.noted.last.items a ≤ l.epoch + 1;
  noted : AreNoted l.epoch l.noted.last.items l.noted.list.items;
  more : AreMore l.epoch (IsPieceOf (piece_in l.pieces l.image) l.addr l.i) l.initial.noted.list.items l.noted.list.items;
}
