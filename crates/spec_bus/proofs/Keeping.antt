-- The calls keep what the caches on a bus keep, and meet the rule of a store of speculative epochs.
use Rattle.std.proofs.Common.{◌≡◌, ℕ, ◌+◌, ◌<◌, ◌^◌, ◌≤◌, ◌%◌, Bool, true, false, Option, Some, length, sym, ap, subst, ◌∙◌}
use Rattle.memory_bytes.specs.Bytes.{number_at}
use Rattle.violations.specs.declared.step.Step.{Step}
use Rattle.violations.specs.declared.step.Step.TheVariants.{Done, Wait}
use Rattle.violations.specs.Answers.{MatchStep, wait_of}
use Rattle.violations.specs.CoreSet.{is_in}
use Rattle.violations.specs.Rule.{Begins, Ends, Loads, Stores, Publishes, LoadsStraight, StoresStraight}
use Rattle.violations.specs.View.{Shape, IsLoad, MayBegin, MayPublish, Runs, attempt_of}
use Rattle.bus_states.specs.declared.notice.Notice.{Notice}
use Rattle.bus_states.specs.Attempts.{after_begin, after_leave, after_cancel}
use Rattle.bus_states.specs.Bus.{Bus, committed, sees, line_of, offset_of}
use Rattle.bus_states.specs.Coherent.{IsCoherent, speculates}
use Rattle.bus_states.specs.Messages.{Room, IsRoom, message_of, is_busy}
use Rattle.bus_states.specs.Speculative.{after_load, load_wait, after_store, store_wait}
use Rattle.bus_states.specs.Straight.{after_publish, publish_violates, after_straight_load, straight_load_violates, after_straight_store, straight_store_violates}
use Rattle.bus_states.specs.Views.{view_of, AreOrdered}
use Rattle.bus_states.proofs.Accesses.{load-with, store-with}
use Rattle.bus_states.proofs.AttemptRules.{begin-begins, leave-ends, cancel-ends}
use Rattle.bus_states.proofs.Coherence.{coherent-with}
use Rattle.bus_states.proofs.InLine.{lies-in_line}
use Rattle.bus_states.proofs.LoadRule.{load-loads}
use Rattle.bus_states.proofs.Ordered.{ordered-begins, ordered-ends, ordered-hurts, ordered-publishes, first-straight, runs-there}
use Rattle.bus_states.proofs.PublishRule.{publish-publishes}
use Rattle.bus_states.proofs.Publishing.{publish-with}
use Rattle.bus_states.proofs.QuietCalls.{begin-with, leave-with, cancel-with}
use Rattle.bus_states.proofs.StoreRule.{store-stores}
use Rattle.bus_states.proofs.StraightAccesses.{first-free, straight_load-with, straight_store-with}
use Rattle.bus_states.proofs.StraightRules.{may-access_straight, straight_load-loads_straight, straight_store-stores_straight}
use Rattle.bus_states.proofs.Taking.{may-access}
use Rattle.spec_bus.specs.declared.parts.Parts.{Parts}
use Rattle.spec_bus.specs.Answers.{MatchAnswer, IsLoaded, IsStored}
use Rattle.spec_bus.specs.CachedInside.{IsBus}
use Rattle.spec_bus.specs.Parts.{bus_in}

-- the machine's parts hold a coherent bus of this shape, whose attempts are ordered
pub cached : (old new : Parts) (after : Bus) → IsBus old → bus_in new ≡ after → IsCoherent after
    → AreOrdered after → after.shape ≡ (bus_in old).shape → IsBus new
cached old new after h moves coherent ordered shape =
    let same : (bus_in new).shape ≡ (bus_in old).shape = ap (λ (bus : Bus). bus.shape) moves ∙ shape in
    record {
      coherent = subst (λ (bus : Bus). IsCoherent bus) (sym moves) coherent;
      ordered = subst (λ (bus : Bus). AreOrdered bus) (sym moves) ordered;
      small = subst (λ (shape : Shape). shape.size ≤ 134217728) (sym same) h.small;
    }

-- a core that runs something is there
pub runs_there : (parts : Parts) (core : ℕ) (straight : Bool) → IsBus parts
    → Runs (view_of (bus_in parts)) core straight → core < length parts.cores.items
runs_there parts core straight h runs = runs-there (bus_in parts) core (attempt_of runs.epoch straight) h.coherent runs.is

pub publishes_there : (parts : Parts) (core : ℕ) → IsBus parts
    → MayPublish (view_of (bus_in parts)) core → core < length parts.cores.items
publishes_there parts core h may = runs-there (bus_in parts) core (attempt_of may.epoch false) h.coherent may.is

-- ---- attempts

pub begins : (old new : Parts) (core epoch : ℕ) → IsBus old → MayBegin (view_of (bus_in old)) core epoch
    → bus_in new ≡ after_begin (bus_in old) core epoch → Begins (view_of (bus_in old)) (view_of (bus_in new)) core epoch
begins old new core epoch h may moves =
    subst (λ (bus : Bus). Begins (view_of (bus_in old)) (view_of bus) core epoch) (sym moves) (begin-begins (bus_in old) core epoch h.coherent may)

pub begun : (old new : Parts) (core epoch : ℕ) → IsBus old → MayBegin (view_of (bus_in old)) core epoch
    → bus_in new ≡ after_begin (bus_in old) core epoch → IsBus new
begun old new core epoch h may moves =
    let after : Bus = after_begin (bus_in old) core epoch in
    let rule = begin-begins (bus_in old) core epoch h.coherent may in
    cached old new after h moves (coherent-with after (committed (bus_in old)) (begin-with (bus_in old) core epoch h.coherent may.there))
    (ordered-begins (bus_in old) after core epoch h.ordered may rule) rule.shape

pub leaves : (old new : Parts) (core : ℕ) → IsBus old → Runs (view_of (bus_in old)) core true
    → bus_in new ≡ after_leave (bus_in old) core → Ends (view_of (bus_in old)) (view_of (bus_in new)) core
leaves old new core h runs moves =
    subst (λ (bus : Bus). Ends (view_of (bus_in old)) (view_of bus) core) (sym moves) (leave-ends (bus_in old) core h.coherent runs)

pub left : (old new : Parts) (core : ℕ) → IsBus old → Runs (view_of (bus_in old)) core true
    → bus_in new ≡ after_leave (bus_in old) core → IsBus new
left old new core h runs moves =
    let after : Bus = after_leave (bus_in old) core in
    let rule = leave-ends (bus_in old) core h.coherent runs in
    cached old new after h moves
    (coherent-with after (committed (bus_in old)) (leave-with (bus_in old) core h.coherent (runs_there old core true h runs) (ap speculates runs.is)))
    (ordered-ends (bus_in old) after core h.ordered rule) rule.shape

pub cancels : (old new : Parts) (core : ℕ) → IsBus old → Runs (view_of (bus_in old)) core false
    → bus_in new ≡ after_cancel (bus_in old) core → Ends (view_of (bus_in old)) (view_of (bus_in new)) core
cancels old new core h runs moves =
    subst (λ (bus : Bus). Ends (view_of (bus_in old)) (view_of bus) core) (sym moves) (cancel-ends (bus_in old) core h.coherent runs)

pub cancelled : (old new : Parts) (core : ℕ) → IsBus old → Runs (view_of (bus_in old)) core false
    → bus_in new ≡ after_cancel (bus_in old) core → IsBus new
cancelled old new core h runs moves =
    let after : Bus = after_cancel (bus_in old) core in
    let rule = cancel-ends (bus_in old) core h.coherent runs in
    cached old new after h moves
    (coherent-with after (committed (bus_in old)) (cancel-with (bus_in old) core h.coherent (runs_there old core false h runs)))
    (ordered-ends (bus_in old) after core h.ordered rule) rule.shape

-- ---- an access of the core to the line of an address

pub record Accesses (parts : Parts) (core address width : ℕ) (straight : Bool) (line : ℕ) (room : Option Room) : Type 0 where
  pub keeps : IsBus parts
  pub runs : Runs (view_of (bus_in parts)) core straight
  pub access : IsLoad (bus_in parts).shape address width
  pub line_is : line ≡ line_of parts.machine.line_length address
  pub victim : IsRoom ((bus_in parts).core core) room

pub access_ends : (parts : Parts) (core address width : ℕ) (straight : Bool) (line : ℕ) (room : Option Room)
    → Accesses parts core address width straight line room → offset_of parts.machine.line_length address + width ≤ parts.machine.line_length
access_ends parts core address width straight line room t =
    (lies-in_line parts.machine.line_length (bus_in parts).shape address width t.keeps.coherent.length_is t.keeps.coherent.whole_lines t.access).ends

-- ---- speculative loads and stores

load-rule : (old : Parts) (core address width line : ℕ) (room : Option Room) (value : ℕ) (hurt : ℕ → Bool) (new : Bus)
    → Accesses old core address width false line room
    → IsLoaded (bus_in old) new core (line_of old.machine.line_length address) (offset_of old.machine.line_length address) width room value hurt
    → Loads (view_of (bus_in old)) (view_of (after_load (bus_in old) core (line_of old.machine.line_length address) (offset_of old.machine.line_length address) width room)) core address width value hurt
load-rule old core address width line room value hurt new t done =
    load-loads (bus_in old) core address width value room hurt t.keeps.coherent t.runs t.access t.victim done.goes_on done.value_is done.small done.violates

pub loads : (step : Step) (old new : Parts) (core address width line : ℕ) (room : Option Room)
    → Accesses old core address width false line room
    → MatchAnswer step (λ value hurt. IsLoaded (bus_in old) (bus_in new) core line (offset_of old.machine.line_length address) width room value hurt)
    (λ cause. (load_wait (bus_in old) core line room ≡ Some cause) × (new ≡ old))
    → MatchStep step (λ value hurt. Loads (view_of (bus_in old)) (view_of (bus_in new)) core address width value hurt)
    (new ≡ old)
loads (Done value hurt) old new core address width line room t done =
    let at = subst (λ (line : ℕ). IsLoaded (bus_in old) (bus_in new) core line (offset_of old.machine.line_length address) width room value (is_in hurt)) t.line_is done in
    subst (λ (bus : Bus). Loads (view_of (bus_in old)) (view_of bus) core address width value (is_in hurt)) (sym at.bus)
    (load-rule old core address width line room value (is_in hurt) (bus_in new) t at)
loads (Wait cause) old new core address width line room t waits = waits.1

pub loaded : (step : Step) (old new : Parts) (core address width line : ℕ) (room : Option Room)
    → Accesses old core address width false line room
    → MatchAnswer step (λ value hurt. IsLoaded (bus_in old) (bus_in new) core line (offset_of old.machine.line_length address) width room value hurt)
    (λ cause. (load_wait (bus_in old) core line room ≡ Some cause) × (new ≡ old))
    → IsBus new
loaded (Done value hurt) old new core address width line room t done =
    let at = subst (λ (line : ℕ). IsLoaded (bus_in old) (bus_in new) core line (offset_of old.machine.line_length address) width room value (is_in hurt)) t.line_is done in
    let after : Bus = after_load (bus_in old) core (line_of old.machine.line_length address) (offset_of old.machine.line_length address) width room in
    let rule = load-rule old core address width line room value (is_in hurt) (bus_in new) t at in
    cached old new after t.keeps at.bus
    (coherent-with after (committed (bus_in old))
    (load-with (bus_in old) core (line_of old.machine.line_length address) (offset_of old.machine.line_length address) width room t.keeps.coherent
    (may-access (bus_in old) core address width room t.keeps.coherent t.runs t.access t.victim) t.access.wide at.goes_on))
    (ordered-hurts (bus_in old) after core (is_in hurt) t.keeps.ordered rule.others rule.attempt) rule.shape
loaded (Wait cause) old new core address width line room t waits =
    subst (λ (parts : Parts). IsBus parts) (sym waits.1) t.keeps

-- it waits just where the load has to
pub load_waits : (step : Step) (old new : Parts) (core offset width line : ℕ) (room : Option Room)
    → MatchAnswer step (λ value hurt. IsLoaded (bus_in old) (bus_in new) core line offset width room value hurt)
    (λ cause. (load_wait (bus_in old) core line room ≡ Some cause) × (new ≡ old))
    → wait_of step ≡ load_wait (bus_in old) core line room
load_waits (Done value hurt) old new core offset width line room done = sym done.goes_on
load_waits (Wait cause) old new core offset width line room waits = sym waits.0

store-rule : (old : Parts) (core address width value line : ℕ) (room : Option Room) (hurt : ℕ → Bool) (new : Bus)
    → Accesses old core address width false line room
    → IsStored (bus_in old) new core (line_of old.machine.line_length address) (offset_of old.machine.line_length address) width value room hurt
    → Stores (view_of (bus_in old)) (view_of (after_store (bus_in old) core (line_of old.machine.line_length address) (offset_of old.machine.line_length address) width value room)) core address width value hurt
store-rule old core address width value line room hurt new t done =
    store-stores (bus_in old) core address width value room hurt t.keeps.coherent t.runs t.access t.victim done.goes_on done.violates

pub stores : (step : Step) (old new : Parts) (core address width value line : ℕ) (room : Option Room)
    → Accesses old core address width false line room
    → MatchAnswer step (λ answer hurt. (answer ≡ 0) × IsStored (bus_in old) (bus_in new) core line (offset_of old.machine.line_length address) width value room hurt)
    (λ cause. (store_wait (bus_in old) core line (offset_of old.machine.line_length address) width room ≡ Some cause) × (new ≡ old))
    → MatchStep step (λ answer hurt. (answer ≡ 0) × Stores (view_of (bus_in old)) (view_of (bus_in new)) core address width value hurt)
    (new ≡ old)
stores (Done answer hurt) old new core address width value line room t done =
    let at = subst (λ (line : ℕ). IsStored (bus_in old) (bus_in new) core line (offset_of old.machine.line_length address) width value room (is_in hurt)) t.line_is done.1 in (
      done.0,
      subst (λ (bus : Bus). Stores (view_of (bus_in old)) (view_of bus) core address width value (is_in hurt)) (sym at.bus)
          (store-rule old core address width value line room (is_in hurt) (bus_in new) t at),
    )
stores (Wait cause) old new core address width value line room t waits = waits.1

pub stored : (step : Step) (old new : Parts) (core address width value line : ℕ) (room : Option Room)
    → Accesses old core address width false line room
    → MatchAnswer step (λ answer hurt. (answer ≡ 0) × IsStored (bus_in old) (bus_in new) core line (offset_of old.machine.line_length address) width value room hurt)
    (λ cause. (store_wait (bus_in old) core line (offset_of old.machine.line_length address) width room ≡ Some cause) × (new ≡ old))
    → IsBus new
stored (Done answer hurt) old new core address width value line room t done =
    let at = subst (λ (line : ℕ). IsStored (bus_in old) (bus_in new) core line (offset_of old.machine.line_length address) width value room (is_in hurt)) t.line_is done.1 in
    let after : Bus = after_store (bus_in old) core (line_of old.machine.line_length address) (offset_of old.machine.line_length address) width value room in
    let rule = store-rule old core address width value line room (is_in hurt) (bus_in new) t at in
    cached old new after t.keeps at.bus
    (coherent-with after (committed (bus_in old))
    (store-with (bus_in old) core (line_of old.machine.line_length address) (offset_of old.machine.line_length address) width value room t.keeps.coherent
    (may-access (bus_in old) core address width room t.keeps.coherent t.runs t.access t.victim) t.access.wide
    (access_ends old core address width false line room t) at.goes_on))
    (ordered-hurts (bus_in old) after core (is_in hurt) t.keeps.ordered rule.others rule.attempt) rule.shape
stored (Wait cause) old new core address width value line room t waits =
    subst (λ (parts : Parts). IsBus parts) (sym waits.1) t.keeps

pub store_waits : (step : Step) (old new : Parts) (core offset width value line : ℕ) (room : Option Room)
    → MatchAnswer step (λ answer hurt. (answer ≡ 0) × IsStored (bus_in old) (bus_in new) core line offset width value room hurt)
    (λ cause. (store_wait (bus_in old) core line offset width room ≡ Some cause) × (new ≡ old))
    → wait_of step ≡ store_wait (bus_in old) core line offset width room
store_waits (Done answer hurt) old new core offset width value line room done = sym (done.1).goes_on
store_waits (Wait cause) old new core offset width value line room waits = sym waits.0

-- ---- publish

pub publishes : (old new : Parts) (core : ℕ) (hurt : ℕ → Bool) → IsBus old → MayPublish (view_of (bus_in old)) core
    → bus_in new ≡ after_publish (bus_in old) core → ((k : ℕ) → hurt k ≡ publish_violates (bus_in old) core k)
    → Publishes (view_of (bus_in old)) (view_of (bus_in new)) core hurt
publishes old new core hurt h may moves are =
    subst (λ (bus : Bus). Publishes (view_of (bus_in old)) (view_of bus) core hurt) (sym moves)
    (publish-publishes (bus_in old) core hurt h.coherent h.ordered may are)

pub published : (old new : Parts) (core : ℕ) (hurt : ℕ → Bool) → IsBus old → MayPublish (view_of (bus_in old)) core
    → bus_in new ≡ after_publish (bus_in old) core → ((k : ℕ) → hurt k ≡ publish_violates (bus_in old) core k)
    → IsBus new
published old new core hurt h may moves are =
    let after : Bus = after_publish (bus_in old) core in
    let rule = publish-publishes (bus_in old) core hurt h.coherent h.ordered may are in
    cached old new after h moves
    (coherent-with after (sees (bus_in old) core) (publish-with (bus_in old) core h.coherent (publishes_there old core h may)))
    (ordered-publishes (bus_in old) after core hurt h.ordered may rule) rule.shape

-- ---- straight accesses

-- nobody holds a straight core up
pub straight_free : (notice : Notice) (parts : Parts) (core line : ℕ) → IsBus parts
    → Runs (view_of (bus_in parts)) core true → line % parts.machine.line_length ≡ 0
    → is_busy (bus_in parts) (message_of (bus_in parts) notice core line) ≡ false
straight_free notice parts core line h runs aligned =
    first-free (bus_in parts) (message_of (bus_in parts) notice core line) h.coherent aligned (first-straight (bus_in parts) core h.ordered runs)

load_straight-rule : (old : Parts) (core address width line : ℕ) (room : Option Room) (value : ℕ) (hurt : ℕ → Bool)
    → Accesses old core address width true line room
    → value ≡ number_at (sees (bus_in old) core line) (offset_of old.machine.line_length address) width → value < 256 ^ width
    → ((k : ℕ) → hurt k ≡ straight_load_violates (bus_in old) core line k)
    → LoadsStraight (view_of (bus_in old)) (view_of (after_straight_load (bus_in old) core line room)) core address width value hurt
load_straight-rule old core address width line room value hurt t is small are =
    subst (λ (line : ℕ). value ≡ number_at (sees (bus_in old) core line) (offset_of old.machine.line_length address) width
    → ((k : ℕ) → hurt k ≡ straight_load_violates (bus_in old) core line k)
    → LoadsStraight (view_of (bus_in old)) (view_of (after_straight_load (bus_in old) core line room)) core address width value hurt) (sym t.line_is)
    (λ is are. straight_load-loads_straight (bus_in old) core address width value room hurt t.keeps.coherent t.keeps.ordered t.runs t.access t.victim is small are) is are

pub loads_straight : (old new : Parts) (core address width line : ℕ) (room : Option Room) (value : ℕ) (hurt : ℕ → Bool)
    → Accesses old core address width true line room → bus_in new ≡ after_straight_load (bus_in old) core line room
    → value ≡ number_at (sees (bus_in old) core line) (offset_of old.machine.line_length address) width → value < 256 ^ width
    → ((k : ℕ) → hurt k ≡ straight_load_violates (bus_in old) core line k)
    → LoadsStraight (view_of (bus_in old)) (view_of (bus_in new)) core address width value hurt
loads_straight old new core address width line room value hurt t moves is small are =
    subst (λ (bus : Bus). LoadsStraight (view_of (bus_in old)) (view_of bus) core address width value hurt) (sym moves)
    (load_straight-rule old core address width line room value hurt t is small are)

pub loaded_straight : (old new : Parts) (core address width line : ℕ) (room : Option Room) (value : ℕ) (hurt : ℕ → Bool)
    → Accesses old core address width true line room → bus_in new ≡ after_straight_load (bus_in old) core line room
    → value ≡ number_at (sees (bus_in old) core line) (offset_of old.machine.line_length address) width → value < 256 ^ width
    → ((k : ℕ) → hurt k ≡ straight_load_violates (bus_in old) core line k)
    → IsBus new
loaded_straight old new core address width line room value hurt t moves is small are =
    let after : Bus = after_straight_load (bus_in old) core line room in
    let rule = load_straight-rule old core address width line room value hurt t is small are in
    let may = may-access_straight (bus_in old) core address width room t.keeps.coherent t.keeps.ordered t.runs t.access t.victim in
    cached old new after t.keeps moves
    (subst (λ (line : ℕ). IsCoherent (after_straight_load (bus_in old) core line room)) (sym t.line_is)
    (coherent-with _ (committed (bus_in old)) (straight_load-with (bus_in old) core (line_of old.machine.line_length address) room t.keeps.coherent may)))
    (ordered-hurts (bus_in old) after core hurt t.keeps.ordered rule.others rule.attempt) rule.shape

store_straight-rule : (old : Parts) (core address width value line : ℕ) (room : Option Room) (hurt : ℕ → Bool)
    → Accesses old core address width true line room
    → ((k : ℕ) → hurt k ≡ straight_store_violates (bus_in old) core line (offset_of old.machine.line_length address) width value k)
    → StoresStraight (view_of (bus_in old)) (view_of (after_straight_store (bus_in old) core line (offset_of old.machine.line_length address) width value room)) core address width value hurt
store_straight-rule old core address width value line room hurt t are =
    subst (λ (line : ℕ). ((k : ℕ) → hurt k ≡ straight_store_violates (bus_in old) core line (offset_of old.machine.line_length address) width value k)
    → StoresStraight (view_of (bus_in old)) (view_of (after_straight_store (bus_in old) core line (offset_of old.machine.line_length address) width value room)) core address width value hurt)
    (sym t.line_is)
    (λ are. straight_store-stores_straight (bus_in old) core address width value room hurt t.keeps.coherent t.keeps.ordered t.runs t.access t.victim are) are

pub stores_straight : (old new : Parts) (core address width value line : ℕ) (room : Option Room) (hurt : ℕ → Bool)
    → Accesses old core address width true line room
    → bus_in new ≡ after_straight_store (bus_in old) core line (offset_of old.machine.line_length address) width value room
    → ((k : ℕ) → hurt k ≡ straight_store_violates (bus_in old) core line (offset_of old.machine.line_length address) width value k)
    → StoresStraight (view_of (bus_in old)) (view_of (bus_in new)) core address width value hurt
stores_straight old new core address width value line room hurt t moves are =
    subst (λ (bus : Bus). StoresStraight (view_of (bus_in old)) (view_of bus) core address width value hurt) (sym moves)
    (store_straight-rule old core address width value line room hurt t are)

pub stored_straight : (old new : Parts) (core address width value line : ℕ) (room : Option Room) (hurt : ℕ → Bool)
    → Accesses old core address width true line room
    → bus_in new ≡ after_straight_store (bus_in old) core line (offset_of old.machine.line_length address) width value room
    → ((k : ℕ) → hurt k ≡ straight_store_violates (bus_in old) core line (offset_of old.machine.line_length address) width value k)
    → IsBus new
stored_straight old new core address width value line room hurt t moves are =
    let after : Bus = after_straight_store (bus_in old) core line (offset_of old.machine.line_length address) width value room in
    let rule = store_straight-rule old core address width value line room hurt t are in
    let may = may-access_straight (bus_in old) core address width room t.keeps.coherent t.keeps.ordered t.runs t.access t.victim in
    cached old new after t.keeps moves
    (subst (λ (line : ℕ). IsCoherent (after_straight_store (bus_in old) core line (offset_of old.machine.line_length address) width value room)) (sym t.line_is)
    (coherent-with _ _ (straight_store-with (bus_in old) core (line_of old.machine.line_length address) (offset_of old.machine.line_length address) width value room t.keeps.coherent may
    (access_ends old core address width true line room t))))
    (ordered-hurts (bus_in old) after core hurt t.keeps.ordered rule.others rule.attempt) rule.shape
