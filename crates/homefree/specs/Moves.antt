-- The calls of the store that a turn makes, in their order.
use Rattle.std.specs.Prelude.{◌≡◌, ◌≢◌, ℕ, zero, suc, ◌==◌, ◌&&◌, not, Bool, true, false, List, [], ◌∷◌, ◌++◌, Option, Some, None, IsSome, is_some, nat_lt, option_map, if◌then◌else◌}
use Rattle.rv32_image.specs.Image.{LoadedImage}
use Rattle.rv32_exec.specs.declared.stop.Stop.{Stop}
use Rattle.rv32_exec.specs.declared.stop.Stop.TheVariants as stop
use Rattle.rv32_exec.specs.Arrival.{Arrival}
use Rattle.rv32_exec.specs.Hart.{HartState}
use Rattle.rv32_exec.specs.NextEvent.{next_event}
use Rattle.rv32_exec.specs.Sequential.{exits}
use Rattle.violations.specs.View.{StoreView, Waits}
use Rattle.violations.specs.Calls.{Call, Reserve, Begin, Load, Store, Publish, StraightLoad, StraightStore, Leave, Cancel, Leads}
use Rattle.homefree.specs.declared.register.Running.{Running}
use Rattle.homefree.specs.Kept.{kept_of}
use Rattle.homefree.specs.Turned.{Turn, IsStale, IsHandedIn, wait_at}

-- ---- a core that runs an epoch, and hands in its next event

-- a core that publishes unless it is straight
abbrev pub publish_calls : Bool → ℕ → List Call
publish_calls straight core = if straight then [] else Publish core ∷ []

-- an access of a core: a straight one, or a speculative one; where this waits and `goes` says so, the core publishes and makes it straight
abbrev pub access_calls : Bool → Bool → ℕ → Call → Call → List Call
access_calls straight goes core speculative access =
    if straight then access ∷ [] else speculative ∷ (if goes then Publish core ∷ access ∷ [] else [])

-- those of a core at this stop, before an exit cancels others; the homefree core alone goes straight, commits or faults
abbrev pub stop_calls : LoadedImage → Waits → ℕ → ℕ → Running → HartState → Stop → List Call
stop_calls image waits homefree core r now (stop.Load address width signed rd) =
    access_calls r.straight (is_some (waits.load core address width) && (r.epoch == homefree)) core (Load core address width) (StraightLoad core address width)
stop_calls image waits homefree core r now (stop.Store address width value) =
    access_calls r.straight (is_some (waits.store core address width) && (r.epoch == homefree)) core (Store core address width value) (StraightStore core address width value)
stop_calls image waits homefree core r now stop.Ended =
    if r.epoch == homefree then publish_calls r.straight core ++ (if exits image now then [] else Leave core ∷ []) else []
stop_calls image waits homefree core r now (stop.Fault cause pc) =
    if r.epoch == homefree then publish_calls r.straight core else []

-- the core exits the loop
abbrev pub is_exit : LoadedImage → ℕ → Running → HartState → Stop → Bool
is_exit image homefree r now (stop.Load address width signed rd) = false
is_exit image homefree r now (stop.Store address width value) = false
is_exit image homefree r now stop.Ended = (r.epoch == homefree) && exits image now
is_exit image homefree r now (stop.Fault cause pc) = false

-- each other core below n that has an attempt is cancelled, in order of core number
abbrev pub cancel_calls : ℕ → ℕ → StoreView → List Call
cancel_calls zero by v = []
cancel_calls (suc n) by v = cancel_calls n by v ++ (if not (n == by) && is_some (v.attempt n) then Cancel n ∷ [] else [])

-- the rest of an exit, once the core has published
abbrev pub exit_calls : Bool → ℕ → ℕ → StoreView → List Call
exit_calls exits count core v = if exits then cancel_calls count core v ++ Leave core ∷ [] else []

-- the first calls, and then the rest of an exit, make the one store of the other
pub record Moves {S : Type 0} (makes : S → Call → S → Type 0) (view : S → StoreView) (first : List Call) (exits : Bool) (count core : ℕ) (s t : S) : Type 0 where
  pub mid : S
  pub leads : Leads makes first s mid
  pub rest : Leads makes (exit_calls exits count core (view mid)) mid t

-- the core speculates past the homefree epoch, and the store makes its access wait
pub record HasToWait (waits : Waits) (homefree core : ℕ) (r : Running) (at : Stop) : Type 0 where
  pub speculates : r.straight ≡ false
  pub later : r.epoch ≢ homefree
  pub waits_there : IsSome (wait_at waits core at)

-- ---- a turn

-- an idle core begins the next epoch, if one is left
abbrev pub start_calls : ℕ → ℕ → ℕ → List Call
start_calls epochs next_epoch core = if nat_lt next_epoch epochs then Begin core next_epoch ∷ [] else []

-- a core that runs an epoch: a hurt one begins it again; any other is at its next event, where it has handed that in
abbrev pub running_calls : LoadedImage → Waits → ℕ → ℕ → Running → Bool → List Call
running_calls image waits homefree core r handed =
    let event = next_event image r.hart in
    if r.hurt then Begin core r.epoch ∷ [] else if handed then stop_calls image waits homefree core r event.now event.at else []

abbrev pub running_exits : LoadedImage → ℕ → Running → Bool → Bool
running_exits image homefree r handed = let event = next_event image r.hart in not r.hurt && handed && is_exit image homefree r event.now event.at

-- where a turn is taken, as far as its calls hang on it
pub record Standing : Type 0 where
  pub image : LoadedImage
  pub count : ℕ
  pub waits : Waits
  pub homefree : ℕ
  pub next_epoch : ℕ
  pub core : ℕ
  pub running : Option Running
  pub next : Option Arrival

abbrev pub calls_of : Standing → Option Running → Bool → List Call
calls_of t None handed = start_calls t.image.epochs t.next_epoch t.core
calls_of t (Some r) handed = running_calls t.image t.waits t.homefree t.core r handed

abbrev pub exits_of : Standing → Option Running → Bool → Bool
exits_of t None handed = false
exits_of t (Some r) handed = running_exits t.image t.homefree r handed

-- the core hands in the stop that was reached from its hart, or it doesn't
abbrev pub IsHanded : Option Running → Option Arrival → Bool → Type 0
IsHanded None next handed = Unit {0}
IsHanded (Some r) next true = IsHandedIn next r.hart
IsHanded (Some r) next false = r.hurt ≡ false → IsStale next r.hart

-- the calls of the turn make the one store of the other
pub record TurnMoves {S : Type 0} (makes : S → Call → S → Type 0) (view : S → StoreView) (t : Standing) (s u : S) : Type 0 where
  pub handed : Bool
  pub is_handed : IsHanded t.running t.next handed
  pub moves : Moves makes view (calls_of t t.running handed) (exits_of t t.running handed) t.count t.core s u

abbrev pub standing_of : Turn → Standing
standing_of t =
    record {
      image = t.image;
      count = t.cores;
      waits = t.waits;
      homefree = t.state.homefree;
      next_epoch = t.state.next_epoch;
      core = t.core;
      running = option_map kept_of (t.state.cores t.core);
      next = t.next;
    }

-- the store first makes room, and then the calls of the turn
pub record StoreMoves {S : Type 0} (makes : S → Call → S → Type 0) (view : S → StoreView) (waits : S → Waits) (t : Standing) (s u : S) : Type 0 where
  pub reserved : S
  pub reserves : makes s Reserve reserved
  pub waits_are : waits reserved ≡ waits s
  pub moves : TurnMoves makes view t reserved u
