use Rattle.std.proofs.Common.{refl}
use Rattle.std.proofs.lemmas.Nat.Bits.{shr_and_one}
use Rattle.spec_states.specs.Mask.{has}
use Rattle.spec_states.proofs.line.Marks.has.Goals as goal

pub returns : goal.returns
unfolding has
returns c = rw shr_and_one refl
