use Rattle.conflicts.specs.Parties.{meeting_in}
use Rattle.conflicts.proofs.Pairing.{beside_within}
use Rattle.conflicts.proofs.blame.Violated.store.Goals as goal

pub store_to-requires : goal.store_to-requires
store_to-requires c =
    beside_within c.args.scene.now.flat.now.image (meeting_in c.args.scene.now.flat.now c.args.self.now.parties) c.line_number-line.result c.in_ok-beside-in-FalseSharing.beside c.in_ok-beside-in-FalseSharing.ensures
