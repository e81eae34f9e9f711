use Rattle.std.proofs.Common.{refl}
use Rattle.spec_bus.proofs.Bytes.{zeros}
use Rattle.machine_tests.proofs.caches.lines.counted.Goals as goal

pub loop-x-init : goal.loop-x-init
loop-x-init c = (refl, λ x _. zeros x)
