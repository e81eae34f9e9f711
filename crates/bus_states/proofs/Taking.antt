-- A core that takes hold of a line for a speculative load or store: its copy then, what it sees, and whom it violates.
use Rattle.std.proofs.Common.{◌≡◌, ◌≢◌, ℕ, ◌%◌, ◌==◌, Bool, true, false, cond, Option, refl, sym, ap, subst, ◌∙◌, arith}
use Rattle.std.proofs.lemmas.Bool.Decides.{nat_tests}
use Rattle.spec_states.specs.declared.line.Marks.{Marks}
use Rattle.spec_states.specs.declared.next.Next.{Next}
use Rattle.spec_states.specs.Tables.{marks_of, no_marks}
use Rattle.spec_states.specs.Copies.{LineCopy, no_copy, IsUpToDate}
use Rattle.spec_states.specs.Mask.{has}
use Rattle.spec_states.specs.States.{is_valid, is_speculative}
use Rattle.violations.specs.Rule.{HurtsLater}
use Rattle.violations.specs.View.{attempt_of, IsLoad, Runs}
use Rattle.bus_states.proofs.Addresses.{line-aligned}
use Rattle.bus_states.proofs.InLine.{load-lies}
use Rattle.bus_states.proofs.Ordered.{runs-there}
use Rattle.bus_states.specs.declared.notice.Notice.{Notice}
use Rattle.bus_states.specs.declared.notice.Notice.TheVariants.{Publish}
use Rattle.bus_states.specs.Bus.{CoreState, Bus, committed, sees, line_of}
use Rattle.bus_states.specs.Coherent.{IsCoherent, speculates}
use Rattle.bus_states.specs.Messages.{Room, IsRoom, message_of, violates, changed_core, without_line, leaves, after_message}
use Rattle.bus_states.specs.Speculative.{own, kept_line}
use Rattle.bus_states.specs.Views.{view_of}
use Rattle.bus_states.proofs.Accesses.{MayAccess, Takes, takes-sends, own-after, own-kept, kept-core}
use Rattle.bus_states.proofs.Coherence.{IsCoherentWith, committed-with, sees-held}
use Rattle.bus_states.proofs.Copies.{made}
use Rattle.bus_states.proofs.Hurting.{message-hurts, quiet-hurts}
use Rattle.bus_states.proofs.QuietCalls.{Keeps, kept-quietly}
use Rattle.bus_states.proofs.Sending.{leaves-held, at_sender}
use Rattle.bus_states.proofs.Showing.{Shows, Shows-same, Shows-gone, merged-same}

-- ---- the conditions of an access

-- a core that runs a speculative attempt may access the line of its load or store
pub may-access : (bus : Bus) (core address width : ℕ) (room : Option Room) → IsCoherent bus → Runs (view_of bus) core false
    → IsLoad bus.shape address width → IsRoom (bus.core core) room → MayAccess bus core (line_of bus.line_length address) room
may-access bus core address width room h runs access victim =
    record {
      aligned = line-aligned bus.line_length address h.length_is;
      inside = (load-lies bus address width h access).inside;
      in_cores = runs-there bus core (attempt_of runs.epoch false) h runs.is;
      runs = ap speculates runs.is;
      victim = victim;
    }

-- ---- a core takes hold of a line

-- its copy has these marks, and each byte as the core saw it. It shows its other lines as before, what is committed stays, and
-- these cores are violated
pub record HasTaken (old new : Bus) (core addr : ℕ) (marks : Marks) (hurt : ℕ → Bool) : Type 0 where
  pub shape : new.shape ≡ old.shape
  pub length : new.line_length ≡ old.line_length
  pub coherent : IsCoherentWith new (committed old)
  pub others : HurtsLater (view_of old) (view_of new) core hurt
  pub attempt : (new.core core).attempt ≡ (old.core core).attempt
  pub marks_are : (own new core addr).marks ≡ marks
  pub cells : (x : ℕ) → (own new core addr).cell x ≡ sees old core addr x
  pub elsewhere : (a : ℕ) → a % old.line_length ≡ 0 → (addr == a) ≡ false → Shows ((old.core core).copy a) ((new.core core).copy a)

made-valid : (next : Next) (cell : ℕ → ℕ) (copy : LineCopy) → is_valid next.state ≡ true → copy ≡ made next.state next.marks cell
    → (copy.marks ≡ next.marks) × ((x : ℕ) → copy.cell x ≡ cell x)
made-valid next cell copy valid is =
    (ap (λ (copy : LineCopy). copy.marks) is ∙ rw valid refl, λ x. ap (λ (copy : LineCopy). copy.cell x) is ∙ rw valid refl)

-- a line that it holds
pub kept-taken : (bus : Bus) (core addr : ℕ) (next : Next) → IsCoherent bus → Keeps bus core addr next → is_valid next.state ≡ true
    → IsCoherentWith (kept_line bus core addr next) (committed bus)
    → HasTaken bus (kept_line bus core addr next) core addr next.marks (λ k. false)
kept-taken bus core addr next h keeps valid with =
    let mine : LineCopy = own bus core addr in
    let is = made-valid next mine.cell (own (kept_line bus core addr next) core addr) valid (own-kept bus core addr next) in
    record {
      shape = refl;
      length = refl;
      coherent = with;
      others = quiet-hurts bus core _ _ _ h (kept-quietly bus core addr next h keeps);
      attempt = ap (λ (state : CoreState). state.attempt) (kept-core bus core addr next);
      marks_are = is.0;
      cells = λ x. is.1 x ∙ sees-held bus core addr h keeps.aligned keeps.held x;
      elsewhere =
          λ a aligned e. subst (λ (state : CoreState). Shows ((bus.core core).copy a) (state.copy a)) (sym (kept-core bus core addr next))
          (rw e (Shows-same ((bus.core core).copy a)));
    }

-- a line for which it sends a message
pub told-taken : (bus : Bus) (notice : Notice) (core addr : ℕ) (room : Option Room) (next : Next) → IsCoherent bus → notice ≢ Publish
    → Takes bus (message_of bus notice core addr) room next
    → IsCoherentWith (after_message bus (message_of bus notice core addr) room next) (committed bus)
    → HasTaken bus (after_message bus (message_of bus notice core addr) room next) core addr next.marks (violates bus (message_of bus notice core addr))
told-taken bus notice core addr room next h access takes with =
    let new : Bus = after_message bus (message_of bus notice core addr) room next in
    let state : CoreState = changed_core addr next (sees bus core addr) (without_line addr room (bus.core core)) in
    let at : new.core core ≡ state = at_sender bus (message_of bus notice core addr) room state in
    let is = made-valid next (sees bus core addr) (own new core addr) takes.valid (own-after bus (message_of bus notice core addr) room next) in
    record {
      shape = refl;
      length = refl;
      coherent = with;
      others =
          message-hurts bus (message_of bus notice core addr) room state (made next.state next.marks (sees bus core addr)) h
          (takes-sends bus (message_of bus notice core addr) room next h takes) (λ publish. absurd (access publish));
      attempt = ap (λ (state : CoreState). state.attempt) at;
      marks_are = is.0;
      cells = is.1;
      elsewhere =
          λ a aligned e. subst (λ (state : CoreState). Shows ((bus.core core).copy a) (state.copy a)) (sym at)
          (rw e (left (leaves room a) a aligned refl));
    }
  where
    left : (b : Bool) (a : ℕ) → a % bus.line_length ≡ 0 → leaves room a ≡ b → Shows ((bus.core core).copy a) (cond b no_copy ((bus.core core).copy a))
    left true a aligned e =
        Shows-gone ((bus.core core).copy a) (committed bus a) ((h.lines a aligned).up_to_date core) (leaves-held (bus.core core) room takes.victim a e).1
    left false a aligned e = Shows-same ((bus.core core).copy a)

-- ---- a fact of the line, and of the others

pub by_line : (P : ℕ → Type 0) (addr a : ℕ) → P addr → ((addr == a) ≡ false → P a) → P a
by_line P addr a here there =
    elim (addr == a) as (λ b. (addr == a) ≡ b → P a) [
      | true ↦ λ e. let at : addr ≡ a = grind (arith, nat_tests) in subst P at here
      | false ↦ λ e. there e
    ] refl

-- what the core sees, where the mask only grows
pub taken-sees : (old new : Bus) (core addr : ℕ) (marks : Marks) (hurt : ℕ → Bool) → IsCoherent old → HasTaken old new core addr marks hurt
    → addr % old.line_length ≡ 0
    → ((x : ℕ) → has marks.bytes x ≡ false → has (own old core addr).marks.bytes x ≡ false)
    → (a : ℕ) → a % old.line_length ≡ 0 → (x : ℕ) → sees new core a x ≡ sees old core a x
taken-sees old new core addr marks hurt h t addr_aligned grows a aligned x =
    by_line (λ (a : ℕ). a % old.line_length ≡ 0 → sees new core a x ≡ sees old core a x) addr a (λ _. here (has marks.bytes x) refl)
    (λ e a_aligned. merged-same ((old.core core).copy a) ((new.core core).copy a) (committed old a) (committed new a) x (t.elsewhere a a_aligned e)
    (same a a_aligned)) aligned
  where
    same : (a : ℕ) → a % old.line_length ≡ 0 → committed new a x ≡ committed old a x
    same a aligned = committed-with new (committed old) t.coherent a (rw t.length aligned) x

    here : (b : Bool) → has marks.bytes x ≡ b → sees new core addr x ≡ sees old core addr x
    here true e =
        let in_mask : has (own new core addr).marks.bytes x ≡ true = ap (λ (marks : Marks). has marks.bytes x) t.marks_are ∙ e in
        rw in_mask (t.cells x)
    here false e =
        let out : has (own new core addr).marks.bytes x ≡ false = ap (λ (marks : Marks). has marks.bytes x) t.marks_are ∙ e in
        rw (out, grows x e) (same addr addr_aligned)

-- ---- the marks that a copy carries

pub carried-bytes : (copy : LineCopy) (c : ℕ → ℕ) → IsUpToDate copy c → (marks_of copy.state copy.marks).bytes ≡ copy.marks.bytes
carried-bytes copy c h = pick (is_speculative copy.state) refl
  where
    pick : (b : Bool) → is_speculative copy.state ≡ b → (cond b copy.marks no_marks).bytes ≡ copy.marks.bytes
    pick true e = refl
    pick false e = sym (h.not_modified e)

pub carried-loaded : (copy : LineCopy) (c : ℕ → ℕ) → IsUpToDate copy c → (marks_of copy.state copy.marks).loaded ≡ copy.marks.loaded
carried-loaded copy c h = pick (is_speculative copy.state) refl
  where
    pick : (b : Bool) → is_speculative copy.state ≡ b → (cond b copy.marks no_marks).loaded ≡ copy.marks.loaded
    pick true e = refl
    pick false e = sym (h.not_loaded e)
