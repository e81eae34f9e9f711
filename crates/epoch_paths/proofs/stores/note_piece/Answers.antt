use Rattle.epoch_paths.proofs.Noting.{more_by, noted_by}
use Rattle.epoch_paths.proofs.stores.note_piece.Goals as goal

pub returns-clause-noted : goal.returns-clause-noted
returns-clause-noted c =
    rw c.note-2.ensures.note
    (noted_by c.add.result c.args.epoch c.args.piece c.args.noted.now.last.items c.args.noted.now.list.items c.add.new.list.items (rw c.number.ensures at c.add.ensures) c.requires.noted)

pub returns-clause-more : goal.returns-clause-more
returns-clause-more c = more_by c.add.result c.args.epoch c.args.piece c.args.noted.now.list.items c.add.new.list.items (rw c.number.ensures at c.add.ensures)
