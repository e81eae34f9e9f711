-- What the drive keeps of each core: where `advance` came to from the hart that the core has in hand.
use Rattle.std.specs.Prelude.{ℕ, List, Option, None, Result, Ok, Err, option_map}
use Rattle.std.specs.List.{slice_index_or}
use Rattle.rv32_image.specs.Image.{LoadedImage}
use Rattle.rv32_exec.specs.Arrival.{Arrival}
use Rattle.rv32_exec.specs.Hart.{HartState}
use Rattle.homefree.specs.declared.answer.Answer.{Answer}
use Rattle.homefree.specs.declared.fault.TurnFault.{TurnFault}
use Rattle.homefree.specs.Acted.{IfArrived}
use Rattle.homefree.specs.Driven.{held_after}

abbrev pub held_at : List (Option Arrival) → ℕ → Option Arrival
held_at held k = slice_index_or held k None

-- the hart that each core has in hand
abbrev pub harts_of : List (Option Arrival) → ℕ → Option HartState
harts_of held k = option_map (λ a. a.base) (held_at held k)

-- each is where `advance` came to
abbrev pub HaveArrived : LoadedImage → List (Option Arrival) → Type 0
HaveArrived image held = (k : ℕ) → IfArrived image (held_at held k)

-- the hart in hand after a turn
abbrev pub held_by : Result Answer TurnFault → Option HartState → Option HartState
held_by (Ok answer) held = held_after answer held
held_by (Err fault) held = held
