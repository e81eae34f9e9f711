-- A core stays coherent: its buffer lists the lines that require ownership, and its marks belong to its attempt.
use Rattle.std.proofs.Common.{◌≡◌, ◌≢◌, ℕ, ◌==◌, ◌||◌, ◌&&◌, not, Bool, true, false, cond, length, Option, refl, sym, ◌∙◌, arith}
use Rattle.std.proofs.lemmas.Bool.Decides.{nat_tests}
use Rattle.memory_bytes.proofs.SmallFacts.{enters_new, or_and_false, or_and_true, was_or_enters}
use Rattle.rv32_image.proofs.SmallFacts.{or_false}
use Rattle.spec_states.specs.declared.next.Next.{Next}
use Rattle.spec_states.specs.Copies.{LineCopy, no_copy}
use Rattle.spec_states.specs.Rows.{requires_ownership}
use Rattle.spec_states.specs.States.{is_speculative}
use Rattle.cache_lines.specs.Protocol.{rolled_back_copy}
use Rattle.cache_lines.proofs.CopyLaws.{unmarked-rolled_back}
use Rattle.orb.specs.Lines.{Buffer, holds, is_full, without, IsBuffer}
use Rattle.orb.proofs.EachOnce.{holds-push, holds-without, IsBuffer-push, IsBuffer-without}
use Rattle.bus_states.specs.Bus.{CoreState}
use Rattle.bus_states.specs.Coherent.{IsCoherentCore, speculates}
use Rattle.bus_states.specs.Messages.{Room, with_copy, with_entry, emptied, dropped_core, changed_core, leaves, without_line}
use Rattle.bus_states.proofs.Copies.{made, made-state, made-required, unrequired}

-- ---- buffers

-- what a buffer holds after an entry
pub entry-holds : (enters : Bool) (addr a : ℕ) (buffer : Buffer)
    → holds (with_entry enters addr buffer).lines a ≡ (holds buffer.lines a || (enters && (addr == a)))
entry-holds true addr a buffer = holds-push buffer.lines addr a
entry-holds false addr a buffer = sym (or_false (holds buffer.lines a))

entry-buffer : (enters : Bool) (addr : ℕ) (buffer : Buffer) → IsBuffer buffer
    → (enters ≡ true → holds buffer.lines addr ≡ false) → (enters && is_full buffer) ≡ false
    → IsBuffer (with_entry enters addr buffer)
entry-buffer true addr buffer h out room =
    IsBuffer-push buffer.limit buffer.lines addr h (out refl) (apart (length buffer.lines) buffer.limit room)
  where
    apart : (n limit : ℕ) → (n == limit) ≡ false → n ≢ limit
    apart n limit e = grind (arith, nat_tests)
entry-buffer false addr buffer h out room = h

-- a buffer takes as many lines as before
pub entry-limit : (enters : Bool) (addr : ℕ) (buffer : Buffer) → (with_entry enters addr buffer).limit ≡ buffer.limit
entry-limit true addr buffer = refl
entry-limit false addr buffer = refl

pub emptied-buffer : (buffer : Buffer) → IsBuffer buffer → IsBuffer (emptied buffer)
emptied-buffer buffer h = record { within = omega arith; limit_is = h.limit_is; each_once = tt }

-- ---- one copy of a core

-- what a change of a core's copy keeps
pub record Changes (core : CoreState) (addr : ℕ) (next : Next) : Type 0 where
  pub enters : next.enters
      ≡ (requires_ownership next.state next.marks && not (requires_ownership (core.copy addr).state (core.copy addr).marks))
  pub stays_required : requires_ownership (core.copy addr).state (core.copy addr).marks ≡ true
      → requires_ownership next.state next.marks ≡ true
  pub has_room : (next.enters && is_full core.buffer) ≡ false
  pub unmarked : speculates core.attempt ≡ false → is_speculative next.state ≡ false

pub changed-coherent : (core : CoreState) (addr : ℕ) (next : Next) (cell : ℕ → ℕ) → IsCoherentCore core
    → Changes core addr next → IsCoherentCore (changed_core addr next cell core)
changed-coherent core addr next cell h t =
    record {
      listed =
          λ a. entry-holds next.enters addr a core.buffer
          ∙ elim (addr == a) as (λ b. (addr == a) ≡ b → (holds core.buffer.lines a || (next.enters && b)) ≡ requires_ownership (cond b (made next.state next.marks cell) (core.copy a)).state (cond b (made next.state next.marks cell) (core.copy a)).marks) [
            | true ↦ λ e.
                let at : addr ≡ a = grind (arith, nat_tests) in
                rw (← at) (or_and_true next.enters _ _ (was_or_enters (holds core.buffer.lines addr) _ _ next.enters (h.listed addr) t.enters t.stays_required) ∙ sym (made-required next.state next.marks cell))
            | false ↦ λ e. or_and_false (holds core.buffer.lines a) next.enters ∙ h.listed a
          ] refl;
      buffer = entry-buffer next.enters addr core.buffer h.buffer (enters_new (holds core.buffer.lines addr) _ _ next.enters (h.listed addr) t.enters) t.has_room;
      unmarked =
          λ a s. elim (addr == a) as (λ b. is_speculative (cond b (made next.state next.marks cell) (core.copy a)).state ≡ false) [
            | true ↦ rw (made-state next.state next.marks cell) (t.unmarked s)
            | false ↦ h.unmarked a s
          ];
    }

-- a copy that enters no buffer and leaves none
pub with_copy-coherent : (core : CoreState) (addr : ℕ) (copy : LineCopy) → IsCoherentCore core
    → requires_ownership copy.state copy.marks ≡ requires_ownership (core.copy addr).state (core.copy addr).marks
    → (speculates core.attempt ≡ false → is_speculative copy.state ≡ false) → IsCoherentCore (with_copy addr copy core)
with_copy-coherent core addr copy h same unmarked =
    record {
      listed =
          λ a. elim (addr == a) as (λ b. (addr == a) ≡ b → holds core.buffer.lines a ≡ requires_ownership (cond b copy (core.copy a)).state (cond b copy (core.copy a)).marks) [
            | true ↦ λ e. let at : addr ≡ a = grind (arith, nat_tests) in rw (← at) (h.listed addr ∙ sym same)
            | false ↦ λ e. h.listed a
          ] refl;
      buffer = h.buffer;
      unmarked =
          λ a s. elim (addr == a) as (λ b. is_speculative (cond b copy (core.copy a)).state ≡ false) [
            | true ↦ unmarked s
            | false ↦ h.unmarked a s
          ];
    }

-- an unmarked line leaves
pub without_line-coherent : (core : CoreState) (addr : ℕ) (room : Option Room) → IsCoherentCore core
    → ((a : ℕ) → leaves room a ≡ true → is_speculative (core.copy a).state ≡ false) → IsCoherentCore (without_line addr room core)
without_line-coherent core addr room h unmarked =
    record {
      listed =
          λ a. elim (leaves room a) as (λ b. leaves room a ≡ b → holds core.buffer.lines a ≡ requires_ownership (cond b no_copy (core.copy a)).state (cond b no_copy (core.copy a)).marks) [
            | true ↦ λ e. h.listed a ∙ unrequired (core.copy a).state (core.copy a).marks (unmarked a e)
            | false ↦ λ e. h.listed a
          ] refl;
      buffer = h.buffer;
      unmarked =
          λ a s. elim (leaves room a) as (λ b. is_speculative (cond b no_copy (core.copy a)).state ≡ false) [
            | true ↦ refl
            | false ↦ h.unmarked a s
          ];
    }

-- a core that drops its attempt
pub dropped-coherent : (core : CoreState) → IsCoherentCore core → IsCoherentCore (dropped_core core)
dropped-coherent core h =
    record {
      listed = λ a. sym (unrequired (rolled_back_copy (core.copy a)).state (rolled_back_copy (core.copy a)).marks (unmarked-rolled_back (core.copy a)));
      buffer = emptied-buffer core.buffer h.buffer;
      unmarked = λ a s. unmarked-rolled_back (core.copy a);
    }

pub violated-coherent : (core : CoreState) (addr : ℕ) → IsCoherentCore core
    → IsCoherentCore (with_copy addr no_copy (dropped_core core))
violated-coherent core addr h =
    with_copy-coherent (dropped_core core) addr no_copy (dropped-coherent core h)
    (sym (unrequired (rolled_back_copy (core.copy addr)).state (rolled_back_copy (core.copy addr)).marks (unmarked-rolled_back (core.copy addr))))
    (λ s. refl)

-- a line that no longer requires ownership leaves the buffer
pub released-coherent : (core : CoreState) (addr : ℕ) (copy : LineCopy) → IsCoherentCore core → is_speculative copy.state ≡ false
    → IsCoherentCore (record (with_copy addr copy core) { buffer = record core.buffer { lines = without addr core.buffer.lines } })
released-coherent core addr copy h calm =
    record {
      listed =
          λ a. holds-without addr a core.buffer.lines
          ∙ elim (addr == a) as (λ b. (addr == a) ≡ b → (holds core.buffer.lines a && not (a == addr)) ≡ requires_ownership (cond b copy (core.copy a)).state (cond b copy (core.copy a)).marks) [
            | true ↦ λ e. never (holds core.buffer.lines a) (a == addr) (grind (arith, nat_tests)) ∙ sym (unrequired copy.state copy.marks calm)
            | false ↦ λ e. same (holds core.buffer.lines a) (a == addr) (grind (arith, nat_tests)) ∙ h.listed a
          ] refl;
      buffer = IsBuffer-without core.buffer.limit core.buffer.lines addr h.buffer;
      unmarked =
          λ a s. elim (addr == a) as (λ b. is_speculative (cond b copy (core.copy a)).state ≡ false) [
            | true ↦ calm
            | false ↦ h.unmarked a s
          ];
    }
  where
    never : (b d : Bool) → d ≡ true → (b && not d) ≡ false
    never b d e = grind (arith, nat_tests)

    same : (b d : Bool) → d ≡ false → (b && not d) ≡ b
    same b d e = grind (arith, nat_tests)
