use Rattle.std.proofs.Common.{◌∙◌, sym, ap, subst, arith}
use Rattle.cache_lines.specs.Lines.{line_in}
use Rattle.bus_states.specs.Bus.{CoreState}
use Rattle.bus_states.specs.Coherent.{IsCoherentCore, speculates}
use Rattle.spec_bus.proofs.StraightMoves.{never_marked}
use Rattle.spec_bus.proofs.parts.Parts.straight_way.Goals as goal

pub unreachable-requires : goal.unreachable-requires
unreachable-requires c =
    never_marked c.core.result.now (line_in c.core.result.now.cache c.args.addr 0)
    (subst (λ (core : CoreState). IsCoherentCore core) (sym c.core.ensures.state) (c.requires.place.coherent.cores c.args.core))
    (ap (λ (core : CoreState). speculates core.attempt) c.core.ensures.state ∙ c.requires.straight)
    c.line-line.ensures.copy (c.in-None.ensures.full 0 (omega arith))
