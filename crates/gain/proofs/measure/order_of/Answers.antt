use Rattle.std.proofs.Common.{refl}
use Rattle.gain.proofs.measure.order_of.Goals as goal

pub returns-in_default : goal.returns-in_default
returns-in_default g c = rw c.in_default.is refl

pub returns-in-Err : goal.returns-in-Err
returns-in-Err g c = tt
