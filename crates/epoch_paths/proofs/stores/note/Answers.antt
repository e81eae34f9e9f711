use Rattle.std.proofs.Common.{◌≡◌, ◌∙◌, subst}
use Rattle.epoch_paths.specs.KeptPieces.{AreMore}
use Rattle.epoch_paths.specs.Stored.{piece_in}
use Rattle.epoch_paths.proofs.Noting.{more_byte}
use Rattle.epoch_paths.proofs.stores.note.Goals as goal

pub loop-i-preserved : goal.loop-i-preserved
loop-i-preserved c =
    let noted = c.note_piece.new.noted.list.items in
    let more = subst (λ q. AreMore c.args.epoch (λ p. p ≡ q) c.loop-i.noted.list.items noted) c.of.ensures.piece c.in_ok-note_piece.ensures.more in record {
      long = c.note_piece.ensures.long ∙ c.loop-i.invariant.long;
      fresh = c.note_piece.ensures.fresh;
      noted = c.in_ok-note_piece.ensures.noted;
      more = more_byte (piece_in c.args.pieces c.args.image.now) c.args.epoch c.args.addr c.loop-i.i _ c.loop-i.noted.list.items noted c.loop-i.invariant.more more;
    }
