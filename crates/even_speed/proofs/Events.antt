-- Between two events a core executes no more instructions than the limit, and one.
use Rattle.std.proofs.Common.{◌≡◌, ℕ, ◌+◌, ◌-◌, ◌≤◌, Option, Some, None, option_map, sym, ap, ◌∙◌, arith}
use Rattle.std.proofs.lemmas.Option.{same_Some}
use Rattle.rv32_image.specs.Image.{LoadedImage}
use Rattle.rv32_exec.specs.Arrival.{Arrival}
use Rattle.rv32_exec.specs.Hart.{HartState}
use Rattle.homefree.specs.Acted.{IfArrived}
use Rattle.rv32_exec.specs.NextEvent.{next_event}
use Rattle.turn_costs.proofs.Events.{done_within}

pub few_to_event : (image : LoadedImage) (h : HartState) → image.limit ≤ 1000000 → (next_event image h).now.done - h.done ≤ 1000001
unfolding next_event
few_to_event image h limit = omega (arith, done_within image (image.limit - h.done + 1) h)

-- a core has in hand where `advance` came to from its hart
pub came_from : (image : LoadedImage) (held : Option Arrival) (a : Arrival) (hart : HartState) → IfArrived image held → held ≡ Some a
    → option_map (λ b. b.base) held ≡ Some hart → a.now.done ≡ (next_event image hart).now.done
came_from image None a hart arrived is based = absurd cc
came_from image (Some b) a hart arrived is based =
    let same : b ≡ a = same_Some b a is in
    let base : b.base ≡ hart = same_Some b.base hart based in
    ap (λ (x : Arrival). x.now.done) (sym same) ∙ (ap (λ (h : HartState). h.done) arrived.0 ∙ ap (λ h. (next_event image h).now.done) base)
