-- What the law of the caches says: their contracts fix what they hold after any calls.
use Rattle.std.specs.Prelude.{◌≡◌, ℕ, List, [], ◌∷◌, Option, Some, None, slice_get}
use Rattle.cache_lines.specs.Placed.{IsPlaced}
use Rattle.rv32_image.specs.Image.{LoadedImage}
use Rattle.violations.specs.declared.step.WaitCause.{WaitCause}
use Rattle.violations.specs.Calls.{Call, Reserve, Begin, Load, Store, Publish, StraightLoad, StraightStore, Leave, Cancel}
use Rattle.bus_states.specs.Attempts.{after_begin, after_leave, after_cancel}
use Rattle.bus_states.specs.Bus.{Bus, line_of, offset_of}
use Rattle.bus_states.specs.Messages.{Room}
use Rattle.bus_states.specs.Speculative.{after_load, load_wait, after_store, store_wait}
use Rattle.bus_states.specs.Straight.{after_publish, after_straight_load, after_straight_store}
use Rattle.spec_bus.specs.Cached.{CachedView, bus, place_of, room, waits}
use Rattle.spec_bus.specs.Fresh.{fresh_bus, by_places}
use Rattle.spec_bus.specs.declared.bus_core.Core.{Core}

-- where an access waits, the bus is as it was
abbrev pub unless_waiting : Option WaitCause → Bus → Bus → Bus
unless_waiting None done before = done
unless_waiting (Some cause) done before = before

-- the bus that the contract of the call names, where the lines take these rooms
abbrev pub after_call : Call → Bus → (ℕ → ℕ → Option Room) → Bus
after_call Reserve b room = b
after_call (Begin core epoch) b room = after_begin b core epoch
after_call (Load core addr width) b room =
    let line = line_of b.line_length addr in
    unless_waiting (load_wait b core line (room core line)) (after_load b core line (offset_of b.line_length addr) width (room core line)) b
after_call (Store core addr width value) b room =
    let line = line_of b.line_length addr in
    unless_waiting (store_wait b core line (offset_of b.line_length addr) width (room core line))
    (after_store b core line (offset_of b.line_length addr) width value (room core line)) b
after_call (Publish core) b room = after_publish b core
after_call (StraightLoad core addr width) b room =
    let line = line_of b.line_length addr in after_straight_load b core line (room core line)
after_call (StraightStore core addr width value) b room =
    let line = line_of b.line_length addr in
    after_straight_store b core line (offset_of b.line_length addr) width value (room core line)
after_call (Leave core) b room = after_leave b core
after_call (Cancel core) b room = after_cancel b core

-- in this core's cache each line stands in its place
abbrev pub IsPlacedCore : List Core → ℕ → Type 0
IsPlacedCore cores k = (core : Core) → slice_get cores k ≡ Some core → IsPlaced core.cache

-- the call by the place of its byte
abbrev pub at_place : (ℕ → ℕ) → Call → Call
at_place place (Load core addr width) = Load core (place addr) width
at_place place (Store core addr width value) = Store core (place addr) width value
at_place place (StraightLoad core addr width) = StraightLoad core (place addr) width
at_place place (StraightStore core addr width value) = StraightStore core (place addr) width value
at_place place call = call

-- they give bytes the same places
pub record HaveSamePlaces (v w : CachedView) : Type 0 where
  pub size : w.size ≡ v.size
  pub apart : w.apart ≡ v.apart

-- the caches after the call
pub record IsAfter (call : Call) (v w : CachedView) : Type 0 where
  pub bus_is : bus w ≡ after_call (at_place (place_of v) call) (bus v) (room v)
  pub places : HaveSamePlaces v w

-- these calls, one after another, lead from the one to the other
abbrev pub Lead : List Call → CachedView → CachedView → Type 0
Lead [] v w = ((k : ℕ) → IsPlacedCore v.cores k) × (w ≡ v)
Lead (call ∷ calls) v w =
    ((k : ℕ) → IsPlacedCore v.cores k) × (u : CachedView) × IsAfter call v u × Lead calls u w

-- they hold the same copies in the same ways
pub record HoldTheSame (v w : CachedView) : Type 0 where
  pub bus_is : bus w ≡ bus v
  pub places : HaveSamePlaces v w

-- they hold the same copies in the same ways, and the same accesses wait, for the same causes
pub record AreAlike (v w : CachedView) : Type 0 where
  pub holds : bus v ≡ bus w
  pub load : (core addr width : ℕ) → (waits v).load core addr width ≡ (waits w).load core addr width
  pub store : (core addr width : ℕ) → (waits v).store core addr width ≡ (waits w).store core addr width

-- from two that are seen equal, the same calls lead to two that are alike, however long the list
abbrev pub CallsAreFixed : Type 0
CallsAreFixed =
    (calls : List Call) (v v' w w' : CachedView) → HoldTheSame v v' → Lead calls v w → Lead calls v' w' → AreAlike w w'

-- ---- one call

-- where the call is an access, each line stands in its place in the cache of its core
abbrev pub IsPlacedFor : List Core → Call → Type 0
IsPlacedFor cores (Load core addr width) = IsPlacedCore cores core
IsPlacedFor cores (Store core addr width value) = IsPlacedCore cores core
IsPlacedFor cores (StraightLoad core addr width) = IsPlacedCore cores core
IsPlacedFor cores (StraightStore core addr width value) = IsPlacedCore cores core
IsPlacedFor cores call = Unit {0}

-- a call makes the caches `w` of the caches `v`, also an access that waits
pub record Makes (v : CachedView) (call : Call) (w : CachedView) : Type 0 where
  pub placed : IsPlacedFor v.cores call
  pub after : IsAfter call v w

-- the caches as they are made
pub record Starts (image : LoadedImage) (cores : ℕ) (v : CachedView) : Type 0 where
  pub bus_is : bus v ≡ fresh_bus (by_places image) cores
  pub size : v.size ≡ image.size
  pub apart : v.apart ≡ image.machine.apart
