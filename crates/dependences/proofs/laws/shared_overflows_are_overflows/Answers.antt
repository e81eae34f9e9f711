use Rattle.dependences.specs.Conflict.{path_memory}
use Rattle.dependences.proofs.Showing.{overflow_of}
use Rattle.dependences.proofs.laws.shared_overflows_are_overflows.Goals as goal

pub returns : goal.returns
returns c image cores overflow = overflow_of image cores (path_memory image cores) overflow
