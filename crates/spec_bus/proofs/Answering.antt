-- What loads and stores answer.
use Rattle.std.proofs.Common.{◌≡◌, ℕ, ◌<◌, ◌^◌, ◌%◌, ◌==◌, Bool, true, false, cond, length, List, Option, Some, None, slice_get, refl, sym, ap, subst, ◌∙◌}
use Rattle.std.proofs.lemmas.Bool.{eq-eqb}
use Rattle.std.proofs.Math.Path.{fun_ext}
use Rattle.memory_bytes.specs.Bytes.{IsWidth, number_at}
use Rattle.spec_states.specs.Copies.{LineCopy}
use Rattle.cache_lines.specs.Protocol.{copy_with_number}
use Rattle.bus_states.proofs.Accesses.{own-after, own-kept, store-valid}
use Rattle.spec_states.specs.States.{is_valid}
use Rattle.cache_lines.specs.Changes.{victim_of}
use Rattle.bus_states.specs.declared.notice.Notice.TheVariants.{Load, Store}
use Rattle.spec_states.specs.declared.next.Next.{Next}
use Rattle.bus_states.specs.Coherent.{IsCoherent}
use Rattle.bus_states.proofs.Coherence.{sees-held}
use Rattle.spec_bus.proofs.Moving.{sees_absent, same_bus}
use Rattle.bus_states.specs.Bus.{Bus, sees, committed}
use Rattle.bus_states.specs.Messages.{Room, message_of, violates, is_busy, with_copy, after_message}
use Rattle.bus_states.specs.Speculative.{holds_line, load_next, owns, own, store_next, kept_line, room_for, after_claim, with_bytes}
use Rattle.spec_bus.specs.declared.bus_core.Core.{Core}
use Rattle.spec_bus.specs.declared.parts.Parts.{Parts}
use Rattle.spec_bus.specs.Answers.{IsLoaded, MayTake, IsTaken, IsStored}
use Rattle.spec_bus.specs.Parts.{room_in, bus_in, bus_of, core_at, line_at, room_at}

-- the room for a line, where a victim was found
pub room_found : (cores : List Core) (k addr way : ℕ) (core : Core) → slice_get cores k ≡ Some core → victim_of core.cache addr ≡ Some way
    → room_at cores k addr ≡ Some (room_in core.cache addr way)
room_found cores k addr way core is found = rw (is, found) refl

pub line_found : (cores : List Core) (k addr way : ℕ) (core : Core) → slice_get cores k ≡ Some core
    → line_at cores k addr (Some way) ≡ Some (room_in core.cache addr way)
line_found cores k addr way core is = rw is refl

-- a load that misses
pub loaded_miss : (old : Parts) (new : Bus) (core addr offset width way : ℕ) (there : Core) (value : ℕ) (hurt : ℕ → Bool)
    → slice_get old.cores.items core ≡ Some there → victim_of there.cache addr ≡ Some way
    → is_valid (((bus_in old).core core).copy addr).state ≡ false → is_busy (bus_in old) (message_of (bus_in old) Load core addr) ≡ false
    → new ≡ after_message (bus_in old) (message_of (bus_in old) Load core addr) (line_at old.cores.items core addr (Some way))
    (load_next (bus_in old) core addr offset width)
    → value ≡ number_at (sees (bus_in old) core addr) offset width → value < 256 ^ width
    → ((k : ℕ) → hurt k ≡ violates (bus_in old) (message_of (bus_in old) Load core addr) k)
    → IsLoaded (bus_in old) new core addr offset width (room_at old.cores.items core addr) value hurt
loaded_miss old new core addr offset width way there value hurt is found absent free moves is_value small are_hurt =
    let room = room_found old.cores.items core addr way there is found in
    let line = line_found old.cores.items core addr way there is in
    record {
      goes_on = rw (room, absent, free) refl;
      bus = moves ∙ rw (line, room, absent) refl;
      value_is = is_value;
      small = small;
      violates = λ k. are_hurt k ∙ rw absent refl;
    }

-- ---- stores

-- a store that may take hold of a line that the core holds
pub taken_held : (old : Bus) (new : Bus) (core addr offset width : ℕ) (room : Option Room) (next : Next) (line : ℕ → ℕ) (hurt : ℕ → Bool)
    → IsCoherent old → addr % old.line_length ≡ 0 → owns old core addr ≡ false → holds_line old core addr ≡ true
    → MayTake old core addr offset width next hurt
    → ((x : ℕ) → line x ≡ ((old.core core).copy addr).cell x)
    → new ≡ after_message old (record { notice = Store; sender = core; addr = addr; line = line }) None next
    → IsTaken old new core addr offset width room hurt
taken_held old new core addr offset width room next line hurt h aligned unowned held may cells moves =
    record {
      goes_on = rw (unowned, held, rw may.next_is at may.has_room, may.free) refl;
      bus = moves
          ∙ ap (λ (line : ℕ → ℕ). after_message old (record { notice = Store; sender = core; addr = addr; line = line }) None next)
          (fun_ext (λ x. cells x ∙ sees-held old core addr h aligned held x))
          ∙ rw (may.next_is, unowned, held) refl;
      violates = λ k. may.violates k ∙ rw unowned refl;
    }

-- and of one that it does not hold
pub taken_missed : (old : Parts) (new : Bus) (core addr offset width way : ℕ) (there : Core) (next : Next) (line : ℕ → ℕ) (hurt : ℕ → Bool)
    → slice_get old.cores.items core ≡ Some there → victim_of there.cache addr ≡ Some way
    → IsCoherent (bus_in old) → addr % old.machine.line_length ≡ 0 → owns (bus_in old) core addr ≡ false → holds_line (bus_in old) core addr ≡ false
    → MayTake (bus_in old) core addr offset width next hurt
    → ((x : ℕ) → line x ≡ committed (bus_in old) addr x)
    → new ≡ after_message (bus_in old) (record { notice = Store; sender = core; addr = addr; line = line }) (line_at old.cores.items core addr (Some way)) next
    → IsTaken (bus_in old) new core addr offset width (room_at old.cores.items core addr) hurt
taken_missed old new core addr offset width way there next line hurt is found h aligned unowned absent may bytes moves =
    let room = room_found old.cores.items core addr way there is found in
    let there_line = line_found old.cores.items core addr way there is in
    record {
      goes_on = rw (room, unowned, absent, rw may.next_is at may.has_room, may.free) refl;
      bus = moves
          ∙ ap (λ (line : ℕ → ℕ). after_message (bus_in old) (record { notice = Store; sender = core; addr = addr; line = line }) (line_at old.cores.items core addr (Some way)) next)
          (fun_ext (λ x. bytes x ∙ sym (sees_absent (bus_in old) core addr h aligned absent x)))
          ∙ rw (may.next_is, unowned, there_line, room, absent) refl;
      violates = λ k. may.violates k ∙ rw unowned refl;
    }

-- where the core has taken hold of a line, it holds it
pub claimed_valid : (bus : Bus) (core addr offset width : ℕ) (room : Option Room) → IsWidth width
    → is_valid (own (after_claim bus core addr offset width room) core addr).state ≡ true
claimed_valid bus core addr offset width room widths = pick (owns bus core addr)
  where
    pick : (b : Bool) → is_valid (own (cond b (kept_line bus core addr (store_next bus core addr offset width))
        (after_message bus (message_of bus Store core addr) (room_for bus core addr room) (store_next bus core addr offset width))) core addr).state ≡ true
    pick true =
        let valid = store-valid bus core addr offset width widths in
        subst (λ (copy : LineCopy). is_valid copy.state ≡ true) (sym (own-kept bus core addr (store_next bus core addr offset width))) (rw valid valid)
    pick false =
        let valid = store-valid bus core addr offset width widths in
        subst (λ (copy : LineCopy). is_valid copy.state ≡ true) (sym (own-after bus (message_of bus Store core addr) (room_for bus core addr room) (store_next bus core addr offset width))) (rw valid valid)

-- and its lines are as long
pub claimed_length : (bus : Bus) (core addr offset width : ℕ) (room : Option Room)
    → ((after_claim bus core addr offset width room).core core).line_length ≡ (bus.core core).line_length
claimed_length bus core addr offset width room = pick (owns bus core addr)
  where
    pick : (b : Bool) → ((cond b (kept_line bus core addr (store_next bus core addr offset width))
        (after_message bus (message_of bus Store core addr) (room_for bus core addr room) (store_next bus core addr offset width))).core core).line_length ≡ (bus.core core).line_length
    pick true = rw (eq-eqb core core refl) refl
    pick false = rw (eq-eqb core core refl) refl

-- and there are as many cores
pub claimed_count : (bus : Bus) (core addr offset width : ℕ) (room : Option Room)
    → (after_claim bus core addr offset width room).shape.cores ≡ bus.shape.cores
claimed_count bus core addr offset width room = pick (owns bus core addr)
  where
    pick : (b : Bool) → (cond b (kept_line bus core addr (store_next bus core addr offset width))
        (after_message bus (message_of bus Store core addr) (room_for bus core addr room) (store_next bus core addr offset width))).shape.cores ≡ bus.shape.cores
    pick true = refl
    pick false = refl

-- a store that is answered
pub stored_bytes : (old mid : Parts) (cores : List Core) (core addr offset width value : ℕ) (room : Option Room) (hurt : ℕ → Bool)
    → IsTaken (bus_in old) (bus_in mid) core addr offset width room hurt → length cores ≡ length mid.cores.items
    → ((j : ℕ) → core_at cores j ≡ cond (j == core) (with_copy addr (copy_with_number offset width value ((core_at mid.cores.items core).copy addr)) (core_at mid.cores.items core)) (core_at mid.cores.items j))
    → IsStored (bus_in old) (bus_of mid.code mid.machine cores mid.memory.items) core addr offset width value room hurt
stored_bytes old mid cores core addr offset width value room hurt taken count is_core =
    record {
      goes_on = taken.goes_on;
      bus = same_bus _ _ _ _ _ _ _ _ _ _ _ _ count refl refl refl is_core (λ p. refl)
          ∙ ap (λ (mid : Bus). with_bytes mid core addr offset width value) taken.bus;
      violates = taken.violates;
    }
