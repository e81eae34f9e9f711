-- What the code keeps of a core, and the core that it stands for.
use Rattle.std.specs.Prelude.{◌≡◌, ℕ, ◌+◌, ◌≤◌, List, length, Option, Some, None, option_map, option_and_then, slice_get, if◌then◌else◌}
use Rattle.memory_bytes.specs.Shadow.{ShadowView, byte_in}
use Rattle.rv32_image.specs.Image.{LoadedImage}
use Rattle.rv32_exec.specs.NextEvent.{next_event}
use Rattle.rv32_exec.specs.Arrival.{Arrival}
use Rattle.spec_history.specs.declared.cores.FlatAttempt.{FlatAttempt}
use Rattle.spec_history.specs.declared.cores.Core.{Core}
use Rattle.spec_history.specs.declared.entry.What.{What}
use Rattle.spec_history.specs.declared.entry.What.TheVariants.{Load, Store}
use Rattle.spec_history.specs.FlatState.{CoreState}

abbrev pub core_with : List (Option ℕ) → List (Option ℕ) → FlatAttempt → CoreState
core_with own outside t = record {
  epoch = t.epoch;
  hart = t.next.base;
  own = byte_in own;
  outside = byte_in outside;
  straight = t.straight;
  hurt = t.hurt;
}

abbrev pub core_of : Core → Option CoreState
core_of core = option_map (core_with core.own.cells core.outside.cells) core.attempt

-- it is the next event of the hart that was handed in
pub record IsNext (image : LoadedImage) (a : Arrival) : Type 0 where
  pub now : a.now ≡ (next_event image a.base).now
  pub at : a.at ≡ (next_event image a.base).at

-- its cells lie in memory, and its next event is that of its hart
pub record IsCoreOf (image : LoadedImage) (core : Core) : Type 0 where
  pub own : length core.own.cells ≤ image.size
  pub outside : length core.outside.cells ≤ image.size
  pub next : (t : FlatAttempt) → core.attempt ≡ Some t → IsNext image t.next

-- the bytes of an access can be noted without taking memory
pub record HasRoomFor (address width : ℕ) (bytes : ShadowView) : Type 0 where
  pub cells : address + width ≤ length bytes.cells
  pub room : width ≤ bytes.room

-- so can those that it loads from outside, and those that it stores; other entries note nothing
abbrev pub HasRoom : What → Core → Type 0
HasRoom (Load address width value) core = HasRoomFor address width core.outside
HasRoom (Store address width value) core = HasRoomFor address width core.own
HasRoom what core = Unit {0}

-- how many instructions of a straight core's epoch are published
abbrev pub published_by : Option CoreState → Option ℕ
published_by core = option_and_then (λ (c : CoreState). if c.straight then Some c.hart.done else None) core

-- each of the cores is idle, and keeps no cells
pub record AreIdle (cores : List Core) : Type 0 where
  pub each : (k : ℕ) (core : Core) → slice_get cores k ≡ Some core → (core.attempt ≡ None) × ((image : LoadedImage) → IsCoreOf image core)
