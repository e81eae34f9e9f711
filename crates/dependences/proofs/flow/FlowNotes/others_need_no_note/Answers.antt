use Rattle.dependences.proofs.Running.{still_right}
use Rattle.dependences.proofs.flow.FlowNotes.others_need_no_note.Goals as goal

pub returns : goal.returns
returns g c image flow h after memory executes right = still_right g.F.Found.keeps image flow h after memory executes right
