-- Loads and stores of a core that doesn't speculate.
use Rattle.std.proofs.Common.{◌≡◌, ℕ, ◌%◌, ◌==◌, length, Bool, true, false, cond, List, Option, None, slice_index, refl, sym, ap, ◌∙◌}
use Rattle.std.proofs.Math.Path.{fun_ext}
use Rattle.spec_states.specs.declared.line.LineState.TheVariants.{S, E, M}
use Rattle.spec_states.specs.declared.next.Next.{Next}
use Rattle.spec_states.specs.States.{is_valid, is_speculative}
use Rattle.spec_states.proofs.RowLaws.{speculative-valid}
use Rattle.cache_lines.specs.declared.line.Line.{Line}
use Rattle.cache_lines.specs.Cells.{with_number}
use Rattle.cache_lines.specs.Protocol.{copy_at, copy_of_line}
use Rattle.bus_states.specs.declared.notice.Notice.TheVariants.{Load, Publish}
use Rattle.bus_states.specs.Bus.{Bus, sees, committed}
use Rattle.bus_states.specs.Coherent.{IsCoherent, IsCoherentCore, speculates}
use Rattle.bus_states.proofs.Coherence.{sees-unmodified}
use Rattle.bus_states.specs.Messages.{Room, message_of, is_alone, changed_core, after_message}
use Rattle.bus_states.specs.Speculative.{own, holds_line, room_for}
use Rattle.bus_states.specs.Straight.{unmarked_next, stores_alone, after_straight_load, after_straight_store}
use Rattle.spec_bus.specs.declared.bus_core.Core.{Core}
use Rattle.spec_bus.specs.CoreStates.{state_of}
use Rattle.spec_bus.specs.declared.parts.Parts.{Parts}
use Rattle.spec_bus.specs.Parts.{bus_of, bus_in, core_at}
use Rattle.spec_bus.proofs.Moving.{same_bus}

-- ---- a way for the line

-- a valid line of a core that doesn't speculate is not marked
pub never_marked : (core : Core) (line : Line) → IsCoherentCore (state_of core) → speculates core.attempt ≡ false
    → (is_valid line.state ≡ true → copy_at core.cache line.addr ≡ copy_of_line line) → is_speculative line.state ≡ true → ⊥
never_marked core line h calm held marked =
    clash (is_speculative line.state) marked
    (ap (λ copy. is_speculative copy.state) (sym (held (speculative-valid line.state marked))) ∙ h.unmarked line.addr calm)
  where
    clash : (b : Bool) → b ≡ true → b ≡ false → ⊥
    clash b e f = cc

-- ---- which of the two cases

left : {A : Type 0} (b : Bool) (x y : A) → b ≡ true → x ≡ cond b x y
left true x y e = refl
left false x y e = cc

right : {A : Type 0} (b : Bool) (x y : A) → b ≡ false → y ≡ cond b x y
right true x y e = cc
right false x y e = refl

-- ---- loads

pub loaded_missed : (old new : Bus) (core addr : ℕ) (room way : Option Room) (next : Next) (line : ℕ → ℕ) (alone : Bool)
    → holds_line old core addr ≡ false → way ≡ room → line ≡ sees old core addr → next ≡ unmarked_next (cond alone E S)
    → alone ≡ is_alone old (message_of old Load core addr)
    → new ≡ after_message old (record { notice = Load; sender = core; addr = addr; line = line }) way next
    → new ≡ after_straight_load old core addr room
loaded_missed old new core addr room way next line alone absent e f g a moves =
    moves
    ∙ ap (λ (way : Option Room). after_message old (record { notice = Load; sender = core; addr = addr; line = line }) way next) e
    ∙ ap (λ (line : ℕ → ℕ). after_message old (record { notice = Load; sender = core; addr = addr; line = line }) room next) f
    ∙ ap (λ (next : Next). after_message old (message_of old Load core addr) room next) (g ∙ ap (λ b. unmarked_next (cond b E S)) a)
    ∙ right (holds_line old core addr) _ _ absent

-- ---- stores

-- the line is published as stored
pub stored_sent : (old new : Bus) (core addr offset width value : ℕ) (room way : Option Room) (next : Next) (line : ℕ → ℕ) (alone : Bool)
    → stores_alone (own old core addr).state ≡ false → way ≡ room_for old core addr room
    → line ≡ with_number (sees old core addr) offset width value → next ≡ unmarked_next (cond alone M S)
    → alone ≡ is_alone old (message_of old Publish core addr)
    → new ≡ after_message old (record { notice = Publish; sender = core; addr = addr; line = line }) way next
    → new ≡ after_straight_store old core addr offset width value room
stored_sent old new core addr offset width value room way next line alone apart e f g a moves =
    moves
    ∙ ap (λ (way : Option Room). after_message old (record { notice = Publish; sender = core; addr = addr; line = line }) way next) e
    ∙ ap (λ (line : ℕ → ℕ). after_message old (record { notice = Publish; sender = core; addr = addr; line = line }) (room_for old core addr room) next) f
    ∙ ap (λ (next : Next). after_message old (record { notice = Publish; sender = core; addr = addr; line = with_number (sees old core addr) offset width value }) (room_for old core addr room) next)
    (g ∙ ap (λ b. unmarked_next (cond b M S)) a)
    ∙ right (stores_alone (own old core addr).state) _ _ apart

pub room_held : (bus : Bus) (core addr : ℕ) (room : Option Room) → holds_line bus core addr ≡ true → None ≡ room_for bus core addr room
room_held bus core addr room held = left (holds_line bus core addr) None room held

pub room_missed : (bus : Bus) (core addr : ℕ) (room : Option Room) → holds_line bus core addr ≡ false → room ≡ room_for bus core addr room
room_missed bus core addr room absent = right (holds_line bus core addr) None room absent

-- ---- what the core sees

-- a core that doesn't speculate sees what is committed
pub sees_committed : (bus : Bus) (core addr : ℕ) → IsCoherent bus → addr % bus.line_length ≡ 0 → speculates (bus.core core).attempt ≡ false
    → (x : ℕ) → sees bus core addr x ≡ committed bus addr x
sees_committed bus core addr h aligned calm =
    sees-unmodified bus core addr (((h.lines addr aligned).up_to_date core).not_modified ((h.cores core).unmarked addr calm))

-- the bytes are written into a copy that no other core has
pub stored_alone : (old : Parts) (cores : List Core) (core addr offset width value : ℕ) (room : Option Room) (cells : List ℕ)
    → length cores ≡ length old.cores.items
    → ((j : ℕ) → core_at cores j ≡ cond (j == core) (changed_core addr (unmarked_next M) (slice_index cells) (core_at old.cores.items core)) (core_at old.cores.items j))
    → ((x : ℕ) → slice_index cells x ≡ with_number (own (bus_in old) core addr).cell offset width value x)
    → stores_alone (own (bus_in old) core addr).state ≡ true
    → bus_of old.code old.machine cores old.memory.items ≡ after_straight_store (bus_in old) core addr offset width value room
stored_alone old cores core addr offset width value room cells count is_core same alone =
    let cell : slice_index cells ≡ with_number (own (bus_in old) core addr).cell offset width value = fun_ext same in
    same_bus _ _ _ _ _ _ _ _ _ _ _ _ count refl refl refl (λ k. is_core k ∙ rw cell refl) (λ p. refl)
    ∙ left (stores_alone (own (bus_in old) core addr).state) _ _ alone
