use Rattle.dependences.proofs.Watching.{still_watched}
use Rattle.dependences.proofs.watch.WatchNotes.others_need_no_note.Goals as goal

pub returns : goal.returns
returns c image watch h after memory executes right = (still_watched image watch h after memory executes right.0, right.1)
