-- The bus after a message, and after a change that nobody is told of.
use Rattle.std.proofs.Common.{◌≡◌, ℕ, ◌+◌, ◌<◌, ◌≤◌, ◌%◌, ◌==◌, ◌&&◌, Bool, true, false, cond, length, List, Option, Some, None, slice_get, slice_index, refl, sym, ap, subst, ◌∙◌}
use Rattle.std.proofs.Math.Path.{fun_ext}
use Rattle.spec_states.specs.declared.line.LineState.{LineState}
use Rattle.spec_states.specs.declared.line.LineState.TheVariants.{I, S, E, M, SpS, SpE}
use Rattle.spec_states.specs.declared.line.Marks.{Marks}
use Rattle.spec_states.specs.declared.next.Next.{Next}
use Rattle.spec_states.specs.Mask.{IsWithinLine}
use Rattle.spec_states.specs.Rows.{requires_ownership}
use Rattle.spec_states.specs.Copies.{LineCopy}
use Rattle.spec_states.specs.States.{is_valid, is_modified}
use Rattle.spec_states.proofs.RowLaws.{modified-valid, invalid-unmarked}
use Rattle.rv32_image.specs.declared.machine.Machine.{Machine}
use Rattle.cache_lines.specs.declared.line.Line.{Line}
use Rattle.cache_lines.specs.Lines.{geometry_of}
use Rattle.cache_lines.specs.Protocol.{copy_at, copy_of_line}
use Rattle.bus_states.specs.Bus.{CoreState, Bus, sees, committed}
use Rattle.bus_states.proofs.Coherence.{sees-unmodified}
use Rattle.bus_states.specs.Coherent.{IsCoherent}
use Rattle.bus_states.specs.Messages.{Room, Message, changed_core, without_line, heard_core, with_line, with_victim, after_message}
use Rattle.bus_states.specs.Speculative.{kept_line}
use Rattle.spec_bus.specs.declared.bus_core.Core.{Core}
use Rattle.spec_bus.specs.declared.parts.Parts.{Parts}
use Rattle.orb.specs.Lines.{holds, is_full}
use Rattle.spec_bus.specs.CoreStates.{state_of, MayChange}
use Rattle.spec_bus.specs.Parts.{bus_of, bus_in, core_at, line_at, state_or_none, line_or_none, IsTold}

abbrev pub bus_record : ℕ → ℕ → ℕ → Machine → (ℕ → CoreState) → (ℕ → ℕ) → Bus
bus_record cores size code machine core memory =
    record { shape = record { cores = cores; size = size; code = code; machine = machine }; line_length = machine.line_length; geometry = geometry_of machine; core = core; memory = memory }

-- two buses that hold the same
pub same_bus : (cores cores2 size size2 code code2 : ℕ) (machine machine2 : Machine) (core core2 : ℕ → CoreState) (memory memory2 : ℕ → ℕ)
    → cores ≡ cores2 → size ≡ size2 → code ≡ code2 → machine ≡ machine2 → ((k : ℕ) → core k ≡ core2 k) → ((p : ℕ) → memory p ≡ memory2 p)
    → bus_record cores size code machine core memory ≡ bus_record cores2 size2 code2 machine2 core2 memory2
same_bus cores cores2 size size2 code code2 machine machine2 core core2 memory memory2 e f g i h j = rw (e, f, g, i, fun_ext h, fun_ext j) refl

-- ---- what a core needs, to take a line or to change it

invalid-free : (s : LineState) (marks : Marks) → is_valid s ≡ false → requires_ownership s marks ≡ false
invalid-free I marks e = refl
invalid-free S marks e = cc
invalid-free E marks e = cc
invalid-free M marks e = cc
invalid-free SpS marks e = cc
invalid-free SpE marks e = cc

-- the mask of the change lies within the core's lines
pub may_change : (bus : Bus) (k addr : ℕ) (next : Next) → IsCoherent bus → k < bus.shape.cores
    → IsWithinLine bus.line_length next.marks.bytes → (next.enters ≡ true → holds (bus.core k).buffer.lines addr ≡ false)
    → (next.enters && is_full (bus.core k).buffer) ≡ false → MayChange (bus.core k) addr next
may_change bus k addr next h inside mask entry room =
    record { mask = subst (λ n. IsWithinLine n next.marks.bytes) (sym (h.lengths k inside)) mask; entry = entry; room = room }

-- a line that the core does not hold is not in its buffer
pub may_fill : (bus : Bus) (k addr : ℕ) (next : Next) → IsCoherent bus → k < bus.shape.cores
    → is_valid ((bus.core k).copy addr).state ≡ false → IsWithinLine bus.line_length next.marks.bytes
    → (next.enters && is_full (bus.core k).buffer) ≡ false → MayChange (bus.core k) addr next
may_fill bus k addr next h inside absent mask room =
    may_change bus k addr next h inside mask
    (λ e. (h.cores k).listed addr ∙ invalid-free ((bus.core k).copy addr).state ((bus.core k).copy addr).marks absent) room

-- ---- what the bus is then

-- the victim, where it is M, is a line of memory
pub victim_inside : (bus : Bus) (k : ℕ) (core : Core) (line : Line) → IsCoherent bus → state_of core ≡ bus.core k
    → (is_valid line.state ≡ true → copy_at core.cache line.addr ≡ copy_of_line line) → is_modified line.state ≡ true
    → line.addr + bus.line_length ≤ bus.shape.size
victim_inside bus k core line h is copy modified =
    let valid : is_valid line.state ≡ true = modified-valid line.state modified in
    h.inside k line.addr
    (ap (λ (core : CoreState). is_valid (core.copy line.addr).state) (sym is) ∙ ap (λ (copy : LineCopy). is_valid copy.state) (copy valid) ∙ valid)

-- the sender has taken the line, and the others have heard
sender_last : (b : Bool) (new sender mid old other : CoreState) → new ≡ cond b sender mid → mid ≡ cond b old other
    → new ≡ cond b sender other
sender_last true new sender mid old other e f = e
sender_last false new sender mid old other e f = e ∙ f

pub fetched : (old mid : Parts) (cores : List Core) (memory : List ℕ) (message : Message) (way : ℕ) (next : Next) (victim : Room)
    → IsTold (bus_in old) (bus_in mid) message → slice_get mid.cores.items message.sender ≡ slice_get old.cores.items message.sender
    → mid.memory ≡ old.memory → mid.code ≡ old.code → mid.machine ≡ old.machine
    → length cores ≡ length mid.cores.items
    → ((j : ℕ) → core_at cores j ≡ cond (j == message.sender)
    (changed_core message.addr next message.line (without_line message.addr (line_at mid.cores.items message.sender message.addr (Some way)) (core_at mid.cores.items message.sender)))
    (core_at mid.cores.items j))
    → length memory ≡ length mid.memory.items
    → line_at old.cores.items message.sender message.addr (Some way) ≡ Some victim
    → ((p : ℕ) → slice_index memory p ≡ with_line mid.machine.line_length message.addr message.line (with_victim mid.machine.line_length (Some victim) (slice_index mid.memory.items)) p)
    → bus_of mid.code mid.machine cores memory
    ≡ after_message (bus_in old) message (line_at old.cores.items message.sender message.addr (Some way)) next
fetched old mid cores memory message way next victim told own same_memory same_code same_limits count core size room bytes =
    same_bus _ _ _ _ _ _ _ _ _ _ _ _ (count ∙ told.count) (size ∙ ap (λ m. length m.items) same_memory) same_code same_limits
    (λ k. sender_last (k == message.sender) (core_at cores k)
    (changed_core message.addr next message.line (without_line message.addr (line_at old.cores.items message.sender message.addr (Some way)) (core_at old.cores.items message.sender)))
    (core_at mid.cores.items k) (core_at old.cores.items k) (heard_core (bus_in old) message k)
    (rw (ap (λ (core : Option Core). line_or_none core message.addr (Some way)) own, ap state_or_none own) at (core k))
    (told.core k))
    (λ p. bytes p ∙ rw (same_limits, same_memory, room) refl)

-- a line that the core holds changes
pub kept : (old : Parts) (cores : List Core) (memory : List ℕ) (core addr : ℕ) (next : Next) (cells : List ℕ)
    → length cores ≡ length old.cores.items
    → ((j : ℕ) → core_at cores j ≡ cond (j == core) (changed_core addr next ((core_at old.cores.items core).copy addr).cell (core_at old.cores.items core)) (core_at old.cores.items j))
    → length memory ≡ length old.memory.items
    → ((p : ℕ) → slice_index memory p ≡ cond next.write_back (with_line old.machine.line_length addr (slice_index cells) (slice_index old.memory.items)) (slice_index old.memory.items) p)
    → next.enters ≡ false → ((x : ℕ) → slice_index cells x ≡ ((core_at old.cores.items core).copy addr).cell x)
    → bus_of old.code old.machine cores memory ≡ kept_line (bus_in old) core addr next
kept old cores memory core addr next cells count is_core size bytes silent same =
    let cell : slice_index cells ≡ ((core_at old.cores.items core).copy addr).cell = fun_ext same in
    same_bus _ _ _ _ _ _ _ _ _ _ _ _ count size refl refl
    (λ k. is_core k ∙ rw silent refl)
    (λ p. bytes p ∙ rw cell refl)

pub claimed : (old mid : Parts) (cores : List Core) (memory : List ℕ) (message : Message) (next : Next)
    → IsTold (bus_in old) (bus_in mid) message → slice_get mid.cores.items message.sender ≡ slice_get old.cores.items message.sender
    → mid.memory ≡ old.memory → mid.code ≡ old.code → mid.machine ≡ old.machine
    → length cores ≡ length mid.cores.items
    → ((j : ℕ) → core_at cores j ≡ cond (j == message.sender) (changed_core message.addr next message.line (core_at mid.cores.items message.sender)) (core_at mid.cores.items j))
    → length memory ≡ length mid.memory.items
    → ((p : ℕ) → slice_index memory p ≡ with_line mid.machine.line_length message.addr message.line (slice_index mid.memory.items) p)
    → bus_of mid.code mid.machine cores memory ≡ after_message (bus_in old) message None next
claimed old mid cores memory message next told own same_memory same_code same_limits count core size bytes =
    same_bus _ _ _ _ _ _ _ _ _ _ _ _ (count ∙ told.count) (size ∙ ap (λ m. length m.items) same_memory) same_code same_limits
    (λ k. sender_last (k == message.sender) (core_at cores k) (changed_core message.addr next message.line (core_at old.cores.items message.sender))
    (core_at mid.cores.items k) (core_at old.cores.items k) (heard_core (bus_in old) message k)
    (rw (ap state_or_none own) at (core k)) (told.core k))
    (λ p. bytes p ∙ rw (same_limits, same_memory) refl)

-- what a core sees of a line that it does not hold
pub sees_absent : (bus : Bus) (core addr : ℕ) → IsCoherent bus → addr % bus.line_length ≡ 0
    → is_valid ((bus.core core).copy addr).state ≡ false → (x : ℕ) → sees bus core addr x ≡ committed bus addr x
sees_absent bus core addr h aligned absent =
    sees-unmodified bus core addr (((h.lines addr aligned).up_to_date core).not_modified (invalid-unmarked ((bus.core core).copy addr).state absent))
