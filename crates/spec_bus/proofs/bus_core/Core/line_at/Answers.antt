use Rattle.spec_bus.proofs.Bytes.{zeros}
use Rattle.std.proofs.Common.{◌∙◌, ap, sym}
use Rattle.spec_states.specs.Copies.{LineCopy}
use Rattle.spec_bus.proofs.bus_core.Core.line_at.Goals as goal

pub returns-in-None-clause-cells : goal.returns-in-None-clause-cells
returns-in-None-clause-cells c x = zeros x ∙ ap (λ (copy : LineCopy). copy.cell x) (sym c.in-None.ensures.absent.copy)
