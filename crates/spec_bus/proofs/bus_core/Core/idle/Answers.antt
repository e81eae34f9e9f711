use Rattle.std.proofs.Common.{refl, None, ◌∙◌}
use Rattle.spec_bus.proofs.CoreCopies.{same_state, idle_way}
use Rattle.spec_bus.proofs.Idle.{same_buffer}
use Rattle.spec_bus.proofs.bus_core.Core.idle.Goals as goal

pub returns : goal.returns
returns c =
    same_state _ _ _ _ _ _ _ (λ _. None) _ _ _ _ c.in_ok-cache.ensures.line_length c.in_ok-cache.ensures.geometry c.in_ok-cache.ensures.copies
    (λ a. c.in_ok-cache.ensures.ways a ∙ idle_way _ None)
    (same_buffer c.new.result _ _ c.new.ensures.limit c.new.ensures.empty) refl
