use Rattle.std.proofs.Common.{◌∙◌, Option, sym, subst}
use Rattle.std.proofs.lemmas.Option.{same_Some}
use Rattle.cache_lines.specs.Placed.{IsPlaced}
use Rattle.bus_states.specs.Messages.{IsRoom}
use Rattle.spec_bus.specs.declared.bus_core.Core.{Core}
use Rattle.spec_bus.specs.Parts.{state_or_none, line_or_none, victim_or_none}
use Rattle.spec_bus.proofs.Rooms.{victim-room}
use Rattle.spec_bus.proofs.parts.Parts.look_room.Goals as goal

pub returns-clause-room : goal.returns-clause-room
returns-clause-room c =
    subst (λ (o : Option Core). IsRoom (state_or_none o) (line_or_none o c.args.addr (victim_or_none o c.args.addr))) (sym c.core.ensures.is)
    (victim-room c.core.result.now c.ways-ways.ensures.placed c.args.addr)

pub returns-clause-placed : goal.returns-clause-placed
returns-clause-placed c =
    λ core at. subst (λ (core : Core). IsPlaced core.cache) (same_Some c.core.result.now core (sym c.core.ensures.is ∙ at)) c.ways-ways.ensures.placed
