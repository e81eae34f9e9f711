-- The calls of the caches that turns make: what each makes of the bus.
use Rattle.std.proofs.Common.{◌≡◌, ◌≢◌, ◌⊎◌, ℕ, ◌<◌, min, Bool, true, false, List, IfSome, Option, Some, None, option_map, slice_get, refl, sym, ap, subst, ◌∙◌, inl, inr, arith}
use Rattle.std.proofs.lemmas.Option.{same_Some}
use Rattle.memory_bytes.proofs.SmallFacts.{starts_inside}
use Rattle.rv32_image.specs.Image.{LoadedImage}
use Rattle.rv32_image.specs.Machine.{IsMachineFor}
use Rattle.rv32_image.specs.Places.{of_places, place}
use Rattle.rv32_exec.specs.declared.stop.Stop.TheVariants as stop
use Rattle.rv32_exec.specs.Execute.{IsAccess}
use Rattle.rv32_exec.specs.NextEvent.{next_event}
use Rattle.spec_history.specs.FlatState.{CoreState, FlatState}
use Rattle.spec_history.specs.Conflict.{line_number}
use Rattle.spec_history.proofs.OneEntry.Going.{Going}
use Rattle.spec_states.specs.Mask.{has, is_within}
use Rattle.spec_states.specs.States.{is_valid, is_speculative}
use Rattle.cache_lines.specs.Changes.{victim_of}
use Rattle.cache_lines.specs.Lines.{line_in}
use Rattle.cache_lines.specs.Placed.{IsPlaced}
use Rattle.cache_lines.specs.Protocol.{copy_at, copy_of_line}
use Rattle.cache_lines.proofs.CopyLaws.{copy_at-own}
use Rattle.cache_lines.proofs.Victims.{victim-unmarked}
use Rattle.orb.specs.Lines.{holds}
use Rattle.violations.specs.declared.step.WaitCause.{WaitCause}
use Rattle.violations.specs.View.{Shape, epoch_of}
use Rattle.violations.specs.Calls as call
use Rattle.bus_states.specs.declared.notice.Notice.TheVariants.{Load, Store, Publish}
use Rattle.bus_states.specs.Bus.{Bus, line_of, offset_of}
use Rattle.bus_states.specs.Coherent.{speculates}
use Rattle.bus_states.specs.Messages.{IsRoom, Room}
use Rattle.bus_states.specs.Speculative.{after_load, after_store, own}
use Rattle.bus_states.specs.Straight.{after_straight_load, after_straight_store, straight_attempt}
use Rattle.bus_states.proofs.Accesses.{none-room}
use Rattle.spec_bus.specs.declared.bus_core.Core.{Core}
use Rattle.spec_bus.specs.Cached.{CachedView, bus, place_of, room, waits}
use Rattle.spec_bus.specs.Laws.{HaveSamePlaces, IsPlacedCore, Makes, unless_waiting}
use Rattle.spec_bus.specs.Parts.{core_at, line_or_none, room_at, room_in, state_or_none, victim_or_none}
use Rattle.spec_bus.specs.CoreStates.{state_of}
use Rattle.bus_states.specs.Bus.{no_core}
use Rattle.dependences.specs.Conflict.{LineConflict, StoresIn, path_memory}
use Rattle.dependences.specs.Shared.{SharedOverflow, TouchesIn}
use Rattle.dependences.proofs.Starting.{IsOrderly}
use Rattle.dependences.proofs.Windows.{IsInWindow}
use Rattle.never_or_shown.proofs.Tidy.{required-written}
use Rattle.never_or_shown.proofs.Accesses.{Goes, MayTell, attempts, limits, epoch_on}
use Rattle.never_or_shown.proofs.Speculating.{load-goes, store-goes, store-has}
use Rattle.never_or_shown.proofs.Straights.{Sets, publish-sets, straight_load-goes, straight_store-goes}
use Rattle.never_or_shown.proofs.Lines.{Reads, Shares, Writes, share_read, share_written}
use Rattle.never_or_shown.proofs.Epochs.{IsSeen, attempt_by, beside_of, line_at, load_access, load_reads, load_touches, may_tell, offset_at, quiet_so, runs_so, speculates_so, store_access, store_stores}

-- ---- places

-- bytes lie where the image has them
pub record HasPlaces (image : LoadedImage) (v : CachedView) : Type 0 where
  pub machine : v.machine ≡ of_places image.machine
  pub size : v.size ≡ image.size
  pub apart : v.apart ≡ image.machine.apart

pub places_after : (image : LoadedImage) (v w : CachedView) → HasPlaces image v → (bus w).shape ≡ (bus v).shape → HaveSamePlaces v w → HasPlaces image w
places_after image v w h shape same = record {
  machine = ap (λ (s : Shape). s.machine) shape ∙ h.machine;
  size = same.size ∙ h.size;
  apart = same.apart ∙ h.apart;
}

pub place_is : (image : LoadedImage) (v : CachedView) (a : ℕ) → HasPlaces image v → a < image.size → place_of v a ≡ place image.machine image.size a
place_is image v a h below =
    let least : min a image.size ≡ a = omega arith in
    (λ i. place (record (h.machine i) { apart = h.apart i }) (h.size i) (min a (h.size i))) ∙ ap (place image.machine image.size) least

-- the room that a line takes is free of marks
room_is : (cores : List Core) (k addr : ℕ) → IsPlacedCore cores k → IsRoom (core_at cores k) (room_at cores k addr)
room_is cores k addr placed = pick (slice_get cores k) placed
  where
    victim : (core : Core) → IsPlaced core.cache → (o : Option ℕ) → IfSome o (λ way. (way < core.cache.geometry.ways) × (is_speculative (line_in core.cache addr way).state ≡ false))
        → IsRoom (state_of core) (option_map (room_in core.cache addr) o)
    victim core placed_there None h = record { held = λ r is. absurd cc; unmarked = λ r is. absurd cc }
    victim core placed_there (Some w) h = record {
      held = λ r is. subst (λ (r : Room). is_valid r.line.state ≡ true → copy_at core.cache r.line.addr ≡ copy_of_line r.line)
          (same_Some (room_in core.cache addr w) r is) (copy_at-own core.cache placed_there addr w h.0);
      unmarked = λ r is. subst (λ (r : Room). is_speculative r.line.state ≡ false) (same_Some (room_in core.cache addr w) r is) h.1;
    }

    pick : (o : Option Core) → ((core : Core) → o ≡ Some core → IsPlaced core.cache) → IsRoom (state_or_none o) (line_or_none o addr (victim_or_none o addr))
    pick None p = none-room no_core
    pick (Some core) p = victim core (p core refl) (victim_of core.cache addr) (victim-unmarked core.cache addr)

done_by : (o : Option WaitCause) (done before : Bus) → o ≡ None → unless_waiting o done before ≡ done
done_by o done before is = ap (λ x. unless_waiting x done before) is

waits_by : (o : Option WaitCause) (done before : Bus) (cause : WaitCause) → o ≡ Some cause → unless_waiting o done before ≡ before
waits_by o done before cause is = ap (λ x. unless_waiting x done before) is

-- ---- calls that leave the bus as it was

pub reserve_same : (v w : CachedView) → Makes v call.Reserve w → bus w ≡ bus v
reserve_same v w made = made.after.bus_is

pub load_waits_same : (v w : CachedView) (core address width : ℕ) (cause : WaitCause) → Makes v (call.Load core address width) w → (waits v).load core address width ≡ Some cause → bus w ≡ bus v
load_waits_same v w core address width cause made is = made.after.bus_is ∙ waits_by ((waits v).load core address width) _ (bus v) cause is

pub store_waits_same : (v w : CachedView) (core address width value : ℕ) (cause : WaitCause) → Makes v (call.Store core address width value) w
    → (waits v).store core address width ≡ Some cause → bus w ≡ bus v
store_waits_same v w core address width value cause made is = made.after.bus_is ∙ waits_by ((waits v).store core address width) _ (bus v) cause is

-- ---- accesses

module _ (image : LoadedImage) (cores : ℕ) (machine : IsMachineFor image.size image.machine) (free : LineConflict image cores → ⊥) (room_left : SharedOverflow image cores → ⊥)
    (s : FlatState) (going : Going image cores s) (window : IsInWindow cores s) (orderly : IsOrderly image cores s)
    (v : CachedView) (places : HasPlaces image v) (seen : IsSeen image cores s (bus v)) (core : ℕ) (c : CoreState) (at : s.cores core ≡ Some c) where
  abbrev R : ℕ → ℕ → Type 0
  R = Reads image cores

  abbrev W : ℕ → ℕ → Type 0
  W = Writes image cores

  abbrev H : ℕ → ℕ → Type 0
  H = Shares image cores

  epoch_is : epoch_on (bus v) core ≡ c.epoch
  epoch_is = ap epoch_of (seen.attempt core ∙ ap attempt_by at)

  speculates_on : c.straight ≡ false → speculates ((bus v).core core).attempt ≡ true
  speculates_on is = ap speculates (seen.attempt core) ∙ speculates_so (s.cores core) c at is

  quiet_on : c.straight ≡ true → speculates ((bus v).core core).attempt ≡ false
  quiet_on is = ap speculates (seen.attempt core) ∙ quiet_so (s.cores core) c at is

  -- what holds of the line and the place of an address on the bus, holds as the image has them
  as_placed : (P : ℕ → ℕ → Type 0) (address : ℕ) → address < image.size → P (line_of (bus v).line_length (place_of v address)) (offset_of (bus v).line_length (place_of v address))
      → P (line_at image address) (offset_at image address)
  as_placed P address below is =
      subst (λ (n : ℕ). P (line_of n (place image.machine image.size address)) (offset_of n (place image.machine image.size address))) seen.length
      (subst (λ (p : ℕ). P (line_of (bus v).line_length p) (offset_of (bus v).line_length p)) (place_is image v address places below) is)

  module _ (address width : ℕ) (signed : Bool) (rd : ℕ) (is : (next_event image c.hart).at ≡ stop.Load address width signed rd) where
    access : IsAccess image (next_event image c.hart).now address width
    access = load_access image c.hart address width signed rd is

    below : address < image.size
    below = starts_inside address width image.size access.wide access.within

    tells_load : MayTell R W H (attempts (bus v)) (limits (bus v)) core Load (line_at image address) image.machine.buffer_lines
    tells_load = may_tell image cores machine s going window orderly (bus v) seen free room_left core c at (line_at image address) (line_number image address) refl Load
        (load_touches image cores machine s going window orderly core c address width signed rd at is) (λ other. absurd (other refl)) (λ other. absurd cc)

    pub load_call : (w : CachedView) → c.straight ≡ false → Makes v (call.Load core address width) w → (waits v).load core address width ≡ None → Goes R W H (bus v) (bus w)
    load_call w speculative made goes_on =
        subst (λ (b : Bus). Goes R W H (bus v) b)
        (sym (as_placed (λ line offset. bus w ≡ after_load (bus v) core line offset width (room v core line)) address below
        (made.after.bus_is ∙ done_by ((waits v).load core address width) _ (bus v) goes_on)))
        (load-goes R W H (bus v) seen.tidy core (line_at image address) (offset_at image address) width image.machine.buffer_lines (room v core (line_at image address)) access.wide
        (speculates_on speculative) (room_is v.cores core (line_at image address) made.placed) tells_load
        (λ out. subst (λ (e : ℕ). R e (line_at image address)) (sym epoch_is)
        (load_reads image cores machine s going window orderly (bus v) seen free room_left core c address width signed rd at speculative is out)))

    pub straight_load_call : (w : CachedView) → c.straight ≡ true → Makes v (call.StraightLoad core address width) w → Goes R W H (bus v) (bus w)
    straight_load_call w straight made =
        subst (λ (b : Bus). Goes R W H (bus v) b)
        (sym (as_placed (λ line offset. bus w ≡ after_straight_load (bus v) core line (room v core line)) address below made.after.bus_is))
        (straight_load-goes R W H (bus v) seen.tidy core (line_at image address) image.machine.buffer_lines (room v core (line_at image address)) (quiet_on straight)
        (room_is v.cores core (line_at image address) made.placed) tells_load)

  module _ (address width value : ℕ) (is : (next_event image c.hart).at ≡ stop.Store address width value) where
    store_in : IsAccess image (next_event image c.hart).now address width
    store_in = store_access image c.hart address width value is

    store_below : address < image.size
    store_below = starts_inside address width image.size store_in.wide store_in.within

    stores_line : StoresIn image c.epoch (path_memory image cores c.epoch) (line_number image address)
    stores_line = store_stores image cores machine s going window orderly core c address width value at is

    writes : W c.epoch (line_at image address)
    writes = record { number = line_number image address; is = refl; holds_of = stores_line }

    touches : TouchesIn image c.epoch (path_memory image cores c.epoch) (line_number image address)
    touches = record { at = stores_line.at; in_line = stores_line.in_line; touches = record { step = stores_line.stores.step; there = inr stores_line.stores.there } }

    tells_store : MayTell R W H (attempts (bus v)) (limits (bus v)) core Store (line_at image address) image.machine.buffer_lines
    tells_store = may_tell image cores machine s going window orderly (bus v) seen free room_left core c at (line_at image address) (line_number image address) refl Store
        touches (λ other. writes) (λ other. absurd cc)

    met : (k : ℕ) → k ≢ core → speculates ((bus v).core k).attempt ≡ true → R (epoch_on (bus v) k) (line_at image address) ⊎ W (epoch_on (bus v) k) (line_at image address)
        → H (epoch_on (bus v) core) (line_at image address)
    met k away runs touched = subst (λ (e : ℕ). H e (line_at image address)) (sym epoch_is) (either touched)
      where
        found : (d : CoreState) × (s.cores k ≡ Some d) × (d.straight ≡ false)
        found = runs_so (s.cores k) (sym (ap speculates (seen.attempt k)) ∙ runs)

        epoch_there : epoch_on (bus v) k ≡ found.0.epoch
        epoch_there = ap epoch_of (seen.attempt k ∙ ap attempt_by found.1)

        either : R (epoch_on (bus v) k) (line_at image address) ⊎ W (epoch_on (bus v) k) (line_at image address) → H c.epoch (line_at image address)
        either (inl reads) = share_read image cores machine.is.line_length found.0.epoch c.epoch (line_at image address)
            (beside_of image cores machine s going window orderly k core found.0 c found.1 at away) (subst (λ (e : ℕ). R e (line_at image address)) epoch_there reads)
        either (inr stored) = share_written image cores machine.is.line_length found.0.epoch c.epoch (line_at image address)
            (beside_of image cores machine s going window orderly k core found.0 c found.1 at away) (subst (λ (e : ℕ). W e (line_at image address)) epoch_there stored)

    bus_stored : (w : CachedView) → Makes v (call.Store core address width value) w → (waits v).store core address width ≡ None
        → bus w ≡ after_store (bus v) core (line_at image address) (offset_at image address) width value (room v core (line_at image address))
    bus_stored w made goes_on =
        as_placed (λ line offset. bus w ≡ after_store (bus v) core line offset width value (room v core line)) address store_below
        (made.after.bus_is ∙ done_by ((waits v).store core address width) _ (bus v) goes_on)

    pub store_call : (w : CachedView) → c.straight ≡ false → Makes v (call.Store core address width value) w → (waits v).store core address width ≡ None → Goes R W H (bus v) (bus w)
    store_call w speculative made goes_on =
        subst (λ (b : Bus). Goes R W H (bus v) b) (sym (bus_stored w made goes_on))
        (store-goes R W H (bus v) seen.tidy core (line_at image address) (offset_at image address) width image.machine.buffer_lines (room v core (line_at image address)) store_in.wide
        (speculates_on speculative) (room_is v.cores core (line_at image address) made.placed) tells_store
        (subst (λ (e : ℕ). W e (line_at image address)) (sym epoch_is) writes) met value)

    -- and the mask has its bytes
    pub store_masks : (w : CachedView) → c.straight ≡ false → Makes v (call.Store core address width value) w → (waits v).store core address width ≡ None
        → (x : ℕ) → is_within (offset_at image address) width x ≡ true → has (own (bus w) core (line_at image address)).marks.bytes x ≡ true
    store_masks w speculative made goes_on x within =
        subst (λ (b : Bus). has (own b core (line_at image address)).marks.bytes x ≡ true) (sym (bus_stored w made goes_on))
        (store-has R W H (bus v) seen.tidy core (line_at image address) (offset_at image address) width image.machine.buffer_lines (room v core (line_at image address)) store_in.wide
        (speculates_on speculative) (room_is v.cores core (line_at image address) made.placed) tells_store
        (subst (λ (e : ℕ). W e (line_at image address)) (sym epoch_is) writes) met value x within)

    pub straight_store_call : (w : CachedView) → c.straight ≡ true → c.epoch ≡ s.homefree → Makes v (call.StraightStore core address width value) w → Goes R W H (bus v) (bus w)
    straight_store_call w straight homefree made =
        subst (λ (b : Bus). Goes R W H (bus v) b)
        (sym (as_placed (λ line offset. bus w ≡ after_straight_store (bus v) core line offset width value (room v core line)) address store_below made.after.bus_is))
        (straight_store-goes R W H (bus v) seen.tidy core (line_at image address) image.machine.buffer_lines (room v core (line_at image address)) (quiet_on straight)
        (room_is v.cores core (line_at image address) made.placed) (offset_at image address) width value
        (may_tell image cores machine s going window orderly (bus v) seen free room_left core c at (line_at image address) (line_number image address) refl Publish
        touches (λ other. writes) (λ other. homefree)))

  -- the lines of the core's buffer are published
  pub publish_call : (w : CachedView) → c.epoch ≡ s.homefree → Makes v (call.Publish core) w → Sets R W H (bus v) (bus w) core (straight_attempt ((bus v).core core).attempt)
  publish_call w homefree made =
      subst (λ (b : Bus). Sets R W H (bus v) b core (straight_attempt ((bus v).core core).attempt)) (sym made.after.bus_is)
      (publish-sets R W H (bus v) core image.machine.buffer_lines seen.tidy (λ addr there. tells addr (written addr there)))
    where
      written : (addr : ℕ) → holds ((bus v).core core).buffer.lines addr ≡ true → W c.epoch addr
      written addr there =
          let tidy = seen.tidy core in
          subst (λ (e : ℕ). W e addr) epoch_is
          ((tidy.fit addr).written (required-written (((bus v).core core).copy addr).state (((bus v).core core).copy addr).marks (sym (tidy.listed addr) ∙ there)))

      tells : (addr : ℕ) → W c.epoch addr → MayTell R W H (attempts (bus v)) (limits (bus v)) core Publish addr image.machine.buffer_lines
      tells addr w = may_tell image cores machine s going window orderly (bus v) seen free room_left core c at addr w.number w.is Publish
          (record { at = w.holds_of.at; in_line = w.holds_of.in_line; touches = record { step = w.holds_of.stores.step; there = inr w.holds_of.stores.there } })
          (λ other. w) (λ other. homefree)
