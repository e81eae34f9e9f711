use Rattle.std.proofs.Common.{◌∙◌, ℕ, ap}
use Rattle.std.proofs.Math.Path.{fun_ext}
use Rattle.memory_bytes.specs.Bytes.{number_at}
use Rattle.bus_states.proofs.Coherence.{sees-held}
use Rattle.spec_bus.specs.Parts.{bus_in}
use Rattle.spec_bus.proofs.parts.Parts.load_hit.Goals as goal

pub returns-clause-value : goal.returns-clause-value
returns-clause-value c =
    c.number_at-value.ensures.value
    ∙ ap (λ (line : ℕ → ℕ). number_at line c.args.offset c.args.width)
    (fun_ext (λ x. c.copy-copy.ensures.cells x ∙ sees-held (bus_in c.args.self.now) c.args.core c.args.addr c.requires.access.coherent c.requires.access.line c.requires.held x))
