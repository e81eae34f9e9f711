-- The room that a line takes in a cache.
use Rattle.std.proofs.Common.{◌≡◌, ◌<◌, ℕ, true, false, IfSome, Option, Some, None, option_map, subst}
use Rattle.std.proofs.lemmas.Option.{same_Some}
use Rattle.spec_states.specs.States.{is_valid, is_speculative}
use Rattle.cache_lines.specs.Changes.{victim_of}
use Rattle.cache_lines.specs.Lines.{line_in}
use Rattle.cache_lines.specs.Placed.{IsPlaced}
use Rattle.cache_lines.specs.Protocol.{copy_at, copy_of_line}
use Rattle.cache_lines.proofs.CopyLaws.{copy_at-own}
use Rattle.cache_lines.proofs.Victims.{victim-unmarked}
use Rattle.bus_states.specs.Messages.{Room, IsRoom}
use Rattle.spec_bus.specs.declared.bus_core.Core.{Core}
use Rattle.spec_bus.specs.CoreStates.{state_of}
use Rattle.spec_bus.specs.Parts.{room_in}

-- the victim's line is one that the core holds, without marks
pub victim-room : (core : Core) → IsPlaced core.cache → (addr : ℕ)
    → IsRoom (state_of core) (option_map (room_in core.cache addr) (victim_of core.cache addr))
victim-room core placed addr = pick (victim_of core.cache addr) (victim-unmarked core.cache addr)
  where
    pick : (o : Option ℕ) → IfSome o (λ way. (way < core.cache.geometry.ways) × (is_speculative (line_in core.cache addr way).state ≡ false))
        → IsRoom (state_of core) (option_map (room_in core.cache addr) o)
    pick None h = record { held = λ r is. absurd cc; unmarked = λ r is. absurd cc }
    pick (Some w) h = record {
      held = λ r is. subst (λ (r : Room). is_valid r.line.state ≡ true → copy_at core.cache r.line.addr ≡ copy_of_line r.line)
          (same_Some (room_in core.cache addr w) r is) (copy_at-own core.cache placed addr w h.0);
      unmarked = λ r is. subst (λ (r : Room). is_speculative r.line.state ≡ false) (same_Some (room_in core.cache addr w) r is) h.1;
    }
