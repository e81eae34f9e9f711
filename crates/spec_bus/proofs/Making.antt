-- What an access makes of the caches is what their law names.
use Rattle.std.proofs.Common.{◌≡◌, ℕ, Option, Some, refl, sym, ap, subst, ◌∙◌}
use Rattle.rv32_image.specs.declared.apart.Apart.{Apart}
use Rattle.violations.specs.declared.step.Step.{Step}
use Rattle.violations.specs.declared.step.Step.TheVariants.{Done, Wait}
use Rattle.violations.specs.CoreSet.{is_in}
use Rattle.violations.specs.Calls.{Call, Load, Store, StraightLoad, StraightStore}
use Rattle.bus_states.specs.Bus.{line_of, offset_of}
use Rattle.bus_states.specs.Messages.{Room}
use Rattle.bus_states.specs.Speculative.{after_load, load_wait, after_store, store_wait}
use Rattle.bus_states.specs.Straight.{after_straight_load, after_straight_store}
use Rattle.spec_bus.specs.declared.parts.Parts.{Parts}
use Rattle.spec_bus.specs.Answers.{MatchAnswer, IsLoaded, IsStored}
use Rattle.spec_bus.specs.Laws.{IsPlacedCore, IsPlacedFor, Makes, after_call, at_place, unless_waiting}
use Rattle.spec_bus.specs.Parts.{bus_in, room_at}
use Rattle.spec_bus.proofs.Placing.{place_at, shown}

-- they are what their law names, where the places are as they were
pub made : (size : ℕ) (apart : Option Apart) (old new : Parts) (call : Call) → IsPlacedFor old.cores.items call
    → bus_in new ≡ after_call (at_place (place_at size apart old) call) (bus_in old) (room_at old.cores.items) → Makes (shown size apart old) call (shown size apart new)
made size apart old new call placed is = record { placed = placed; after = record { bus_is = is; places = record { size = refl; apart = refl } } }

load_at : (step : Step) (old new : Parts) (core offset width line : ℕ) (room : Option Room)
    → MatchAnswer step (λ value hurt. IsLoaded (bus_in old) (bus_in new) core line offset width room value hurt)
    (λ cause. (load_wait (bus_in old) core line room ≡ Some cause) × (new ≡ old))
    → bus_in new ≡ unless_waiting (load_wait (bus_in old) core line room) (after_load (bus_in old) core line offset width room) (bus_in old)
load_at (Done value hurt) old new core offset width line room done =
    done.bus ∙ sym (ap (λ wait. unless_waiting wait (after_load (bus_in old) core line offset width room) (bus_in old)) done.goes_on)
load_at (Wait cause) old new core offset width line room waits =
    ap bus_in waits.1 ∙ sym (ap (λ wait. unless_waiting wait (after_load (bus_in old) core line offset width room) (bus_in old)) waits.0)

pub load_makes : (size : ℕ) (apart : Option Apart) (step : Step) (old new : Parts) (core address place width line : ℕ) → place ≡ place_at size apart old address → line ≡ line_of old.machine.line_length place → IsPlacedCore old.cores.items core
    → MatchAnswer step (λ value hurt. IsLoaded (bus_in old) (bus_in new) core line (offset_of old.machine.line_length place) width (room_at old.cores.items core line) value hurt)
    (λ cause. (load_wait (bus_in old) core line (room_at old.cores.items core line) ≡ Some cause) × (new ≡ old))
    → Makes (shown size apart old) (Load core address width) (shown size apart new)
load_makes size apart step old new core address place width line place_is line_is placed answer =
    let offset = offset_of old.machine.line_length place in
    let room : ℕ → Option Room = room_at old.cores.items core in
    made size apart old new (Load core address width) placed
    (subst (λ q. bus_in new ≡ after_call (Load core q width) (bus_in old) (room_at old.cores.items)) place_is
    (load_at step old new core offset width line (room line) answer
    ∙ ap (λ l. unless_waiting (load_wait (bus_in old) core l (room l)) (after_load (bus_in old) core l offset width (room l)) (bus_in old)) line_is))

store_at : (step : Step) (old new : Parts) (core offset width value line : ℕ) (room : Option Room)
    → MatchAnswer step (λ answer hurt. (answer ≡ 0) × IsStored (bus_in old) (bus_in new) core line offset width value room hurt)
    (λ cause. (store_wait (bus_in old) core line offset width room ≡ Some cause) × (new ≡ old))
    → bus_in new ≡ unless_waiting (store_wait (bus_in old) core line offset width room) (after_store (bus_in old) core line offset width value room) (bus_in old)
store_at (Done answer hurt) old new core offset width value line room done =
    done.1.bus ∙ sym (ap (λ wait. unless_waiting wait (after_store (bus_in old) core line offset width value room) (bus_in old)) done.1.goes_on)
store_at (Wait cause) old new core offset width value line room waits =
    ap bus_in waits.1 ∙ sym (ap (λ wait. unless_waiting wait (after_store (bus_in old) core line offset width value room) (bus_in old)) waits.0)

pub store_makes : (size : ℕ) (apart : Option Apart) (step : Step) (old new : Parts) (core address place width value line : ℕ) → place ≡ place_at size apart old address → line ≡ line_of old.machine.line_length place → IsPlacedCore old.cores.items core
    → MatchAnswer step (λ answer hurt. (answer ≡ 0) × IsStored (bus_in old) (bus_in new) core line (offset_of old.machine.line_length place) width value (room_at old.cores.items core line) hurt)
    (λ cause. (store_wait (bus_in old) core line (offset_of old.machine.line_length place) width (room_at old.cores.items core line) ≡ Some cause) × (new ≡ old))
    → Makes (shown size apart old) (Store core address width value) (shown size apart new)
store_makes size apart step old new core address place width value line place_is line_is placed answer =
    let offset = offset_of old.machine.line_length place in
    let room : ℕ → Option Room = room_at old.cores.items core in
    made size apart old new (Store core address width value) placed
    (subst (λ q. bus_in new ≡ after_call (Store core q width value) (bus_in old) (room_at old.cores.items)) place_is
    (store_at step old new core offset width value line (room line) answer
    ∙ ap (λ l. unless_waiting (store_wait (bus_in old) core l offset width (room l)) (after_store (bus_in old) core l offset width value (room l)) (bus_in old)) line_is))

pub straight_load_makes : (size : ℕ) (apart : Option Apart) (old new : Parts) (core address place width line : ℕ) → place ≡ place_at size apart old address → line ≡ line_of old.machine.line_length place → IsPlacedCore old.cores.items core
    → bus_in new ≡ after_straight_load (bus_in old) core line (room_at old.cores.items core line) → Makes (shown size apart old) (StraightLoad core address width) (shown size apart new)
straight_load_makes size apart old new core address place width line place_is line_is placed is =
    made size apart old new (StraightLoad core address width) placed
    (subst (λ q. bus_in new ≡ after_call (StraightLoad core q width) (bus_in old) (room_at old.cores.items)) place_is
    (is ∙ ap (λ l. after_straight_load (bus_in old) core l (room_at old.cores.items core l)) line_is))

pub straight_store_makes : (size : ℕ) (apart : Option Apart) (old new : Parts) (core address place width value line : ℕ) → place ≡ place_at size apart old address → line ≡ line_of old.machine.line_length place → IsPlacedCore old.cores.items core
    → bus_in new ≡ after_straight_store (bus_in old) core line (offset_of old.machine.line_length place) width value (room_at old.cores.items core line)
    → Makes (shown size apart old) (StraightStore core address width value) (shown size apart new)
straight_store_makes size apart old new core address place width value line place_is line_is placed is =
    made size apart old new (StraightStore core address width value) placed
    (subst (λ q. bus_in new ≡ after_call (StraightStore core q width value) (bus_in old) (room_at old.cores.items)) place_is
    (is ∙ ap (λ l. after_straight_store (bus_in old) core l (offset_of old.machine.line_length place) width value (room_at old.cores.items core l)) line_is))

-- ---- answers, at the line of a place

pub loaded_at : (size : ℕ) (apart : Option Apart) (step : Step) (old new : Parts) (core place q width line : ℕ) → place ≡ q → line ≡ line_of old.machine.line_length place
    → MatchAnswer step (λ value hurt. IsLoaded (bus_in old) (bus_in new) core line (offset_of old.machine.line_length place) width (room_at old.cores.items core line) value hurt)
    (λ cause. (load_wait (bus_in old) core line (room_at old.cores.items core line) ≡ Some cause) × (new ≡ old))
    → MatchAnswer step
    (λ value hurt. IsLoaded (bus_in old) (bus_in new) core (line_of old.machine.line_length q) (offset_of old.machine.line_length q) width
    (room_at old.cores.items core (line_of old.machine.line_length q)) value hurt)
    (λ cause. (load_wait (bus_in old) core (line_of old.machine.line_length q) (room_at old.cores.items core (line_of old.machine.line_length q)) ≡ Some cause)
    × (shown size apart new ≡ shown size apart old))
loaded_at size apart (Done value hurt) old new core place q width line place_is line_is done =
    let room : ℕ → Option Room = room_at old.cores.items core in
    subst (λ p. IsLoaded (bus_in old) (bus_in new) core (line_of old.machine.line_length p) (offset_of old.machine.line_length p) width (room (line_of old.machine.line_length p)) value (is_in hurt)) place_is
    (subst (λ l. IsLoaded (bus_in old) (bus_in new) core l (offset_of old.machine.line_length place) width (room l) value (is_in hurt)) line_is done)
loaded_at size apart (Wait cause) old new core place q width line place_is line_is waits =
    let room : ℕ → Option Room = room_at old.cores.items core in (
      subst (λ p. load_wait (bus_in old) core (line_of old.machine.line_length p) (room (line_of old.machine.line_length p)) ≡ Some cause) place_is
          (subst (λ l. load_wait (bus_in old) core l (room l) ≡ Some cause) line_is waits.0),
      ap (shown size apart) waits.1,
    )

pub stored_at : (size : ℕ) (apart : Option Apart) (step : Step) (old new : Parts) (core place q width value line : ℕ) → place ≡ q → line ≡ line_of old.machine.line_length place
    → MatchAnswer step (λ answer hurt. (answer ≡ 0) × IsStored (bus_in old) (bus_in new) core line (offset_of old.machine.line_length place) width value (room_at old.cores.items core line) hurt)
    (λ cause. (store_wait (bus_in old) core line (offset_of old.machine.line_length place) width (room_at old.cores.items core line) ≡ Some cause) × (new ≡ old))
    → MatchAnswer step
    (λ answer hurt. (answer ≡ 0) × IsStored (bus_in old) (bus_in new) core (line_of old.machine.line_length q) (offset_of old.machine.line_length q) width value
    (room_at old.cores.items core (line_of old.machine.line_length q)) hurt)
    (λ cause. (store_wait (bus_in old) core (line_of old.machine.line_length q) (offset_of old.machine.line_length q) width (room_at old.cores.items core (line_of old.machine.line_length q)) ≡ Some cause)
    × (shown size apart new ≡ shown size apart old))
stored_at size apart (Done answer hurt) old new core place q width value line place_is line_is done =
    let room : ℕ → Option Room = room_at old.cores.items core in (
      done.0,
      subst (λ p. IsStored (bus_in old) (bus_in new) core (line_of old.machine.line_length p) (offset_of old.machine.line_length p) width value (room (line_of old.machine.line_length p)) (is_in hurt)) place_is
          (subst (λ l. IsStored (bus_in old) (bus_in new) core l (offset_of old.machine.line_length place) width value (room l) (is_in hurt)) line_is done.1),
    )
stored_at size apart (Wait cause) old new core place q width value line place_is line_is waits =
    let room : ℕ → Option Room = room_at old.cores.items core in (
      subst (λ p. store_wait (bus_in old) core (line_of old.machine.line_length p) (offset_of old.machine.line_length p) width (room (line_of old.machine.line_length p)) ≡ Some cause) place_is
          (subst (λ l. store_wait (bus_in old) core l (offset_of old.machine.line_length place) width (room l) ≡ Some cause) line_is waits.0),
      ap (shown size apart) waits.1,
    )
