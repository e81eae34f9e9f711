use Rattle.std.proofs.Common.{◌∙◌, ap}
use Rattle.orb.specs.Lines.{Buffer, holds}
use Rattle.machine_tests.proofs.caches.checks.is_listed.Goals as goal

pub returns : goal.returns
returns c =
    c.holds.ensures ∙ ap (λ (buffer : Buffer). holds buffer.lines c.args.line) c.orb_at.ensures
    ∙ (c.look.ensures.coherent.cores c.args.core).listed c.args.line
