-- Speculative loads and stores keep the bus coherent, and what is committed.
use Rattle.std.proofs.Common.{◌≡◌, ◌≢◌, ℕ, ◌+◌, ◌%◌, ◌<◌, ◌≤◌, ◌==◌, ◌&&◌, ◌||◌, not, Bool, true, false, cond, Option, Some, None, refl, sym, ap, subst, ◌∙◌}
use Rattle.std.proofs.Math.Path.{fun_ext}
use Rattle.std.proofs.lemmas.Bool.{and_left, both_ways, eqb-true, not-false, or_right}
use Rattle.memory_bytes.specs.Bytes.{IsWidth}
use Rattle.memory_bytes.proofs.SmallFacts.{none_enters}
use Rattle.spec_states.specs.declared.next.Next.{Next}
use Rattle.spec_states.specs.declared.line.Marks.{Marks}
use Rattle.spec_states.specs.declared.line.LineState.{LineState}
use Rattle.spec_states.specs.declared.line.LineState.TheVariants.{I, S, E, M, SpS, SpE}
use Rattle.spec_states.specs.Copies.{LineCopy, copy_of, IsUpToDate}
use Rattle.spec_states.specs.Mask.{has, is_within, IsWithinLine}
use Rattle.spec_states.specs.Rows.{requires_ownership, owns_line, TakesHold}
use Rattle.spec_states.specs.States.{is_valid, is_exclusive, is_speculative}
use Rattle.spec_states.specs.Tables.{marks_of}
use Rattle.spec_states.proofs.CopyLaws.{own_load-keeps, own_load-filled, own_load-marks, own_store-keeps, own_store-filled, own_store-mask, own_store-within_line, marks_of-within_line}
use Rattle.spec_states.proofs.RowLaws.{own_load-takes_hold, own_load-enters_none, own_load-held, own_store-takes_hold, owned-valid, owned-exclusive, owned-enters_none, speculative-valid, invalid-unmarked}
use Rattle.orb.specs.Lines.{is_full}
use Rattle.violations.specs.declared.step.WaitCause.TheVariants.{NoWay, OrbFull, OrbBusy}
use Rattle.bus_states.specs.declared.notice.Notice.{Notice}
use Rattle.bus_states.specs.declared.notice.Notice.TheVariants.{Load, Store, Publish}
use Rattle.bus_states.specs.Bus.{CoreState, Bus, committed, sees}
use Rattle.bus_states.specs.Coherent.{IsCoherent, speculates}
use Rattle.bus_states.specs.Messages.{Room, IsRoom, Message, message_of, is_busy, is_alone, changed_core, with_copy, without_line, leaves, after_message}
use Rattle.bus_states.specs.Speculative.{own, holds_line, room_for, no_room, kept_line, load_next, after_load, load_wait, store_next, owns, after_claim, with_bytes, after_store, store_wait}
use Rattle.bus_states.proofs.Coherence.{IsCoherentWith, committed-with, coherent-with, with-same, sees-past, sees-held, sees-unmodified}
use Rattle.bus_states.proofs.Copies.{itself, made, made-state, made-up_to_date, made-in_place}
use Rattle.bus_states.proofs.Cores.{entry-limit, changed-coherent, without_line-coherent}
use Rattle.bus_states.proofs.QuietCalls.{Keeps, kept-with, Writes, written-with, same-lines}
use Rattle.bus_states.proofs.Sending.{leaves-held, Sends, sent_lines, sent-with, at_sender}

-- ---- a core takes a line by a message

-- what a message asks of the sender's change
pub record Takes (bus : Bus) (message : Message) (room : Option Room) (next : Next) : Type 0 where
  pub aligned : message.addr % bus.line_length ≡ 0
  pub inside : message.addr + bus.line_length ≤ bus.shape.size
  pub in_cores : message.sender < bus.shape.cores
  pub free : is_busy bus message ≡ false
  pub past : (x : ℕ) → bus.line_length ≤ x → message.line x ≡ 0
  pub same_line : message.notice ≢ Publish → message.line ≡ committed bus message.addr
  pub victim : IsRoom (bus.core message.sender) room
  -- the sender's own line does not leave
  pub apart : leaves room message.addr ≡ false
  pub valid : is_valid next.state ≡ true
  pub unmarked : speculates (bus.core message.sender).attempt ≡ false → is_speculative next.state ≡ false
  pub within : IsWithinLine bus.line_length next.marks.bytes
  pub up_to_date : IsUpToDate (copy_of next.state next.marks message.line) message.line
  pub exclusive : is_exclusive next.state ≡ true
      → (is_exclusive (own bus message.sender message.addr).state || is_alone bus message) ≡ true
  pub enters : next.enters ≡ (requires_ownership next.state next.marks
      && not (requires_ownership (own bus message.sender message.addr).state (own bus message.sender message.addr).marks))
  pub stays_required : requires_ownership (own bus message.sender message.addr).state (own bus message.sender message.addr).marks ≡ true
      → requires_ownership next.state next.marks ≡ true
  pub has_room : (next.enters && is_full (bus.core message.sender).buffer) ≡ false

pub takes-sends : (bus : Bus) (message : Message) (room : Option Room) (next : Next) → IsCoherent bus → Takes bus message room next
    → Sends bus message room (changed_core message.addr next message.line (without_line message.addr room (bus.core message.sender)))
    (made next.state next.marks message.line)
takes-sends bus message room next h t =
    let there : (without_line message.addr room (bus.core message.sender)).copy message.addr ≡ own bus message.sender message.addr = rw t.apart refl in
    record {
      aligned = t.aligned;
      inside = t.inside;
      in_cores = t.in_cores;
      free = t.free;
      past = t.past;
      same_line = t.same_line;
      victim = t.victim;
      copies = λ a. refl;
      same_length = refl;
      same_geometry = refl;
      same_limit = entry-limit next.enters message.addr (bus.core message.sender).buffer;
      stays =
          changed-coherent (without_line message.addr room (bus.core message.sender)) message.addr next message.line
          (without_line-coherent (bus.core message.sender) message.addr room (h.cores message.sender) (λ a e. (leaves-held (bus.core message.sender) room t.victim a e).1))
          (record {
            enters = rw there t.enters;
            stays_required = rw there t.stays_required;
            has_room = t.has_room;
            unmarked = t.unmarked;
          });
      up_to_date = made-up_to_date next.state next.marks message.line message.line t.up_to_date;
      in_place = made-in_place bus.line_length message.addr next.state next.marks message.line (λ _. t.aligned) t.within t.past;
      exclusive = λ e. t.exclusive (sym (ap is_exclusive (made-state next.state next.marks message.line)) ∙ e);
    }

pub taken-with : (bus : Bus) (message : Message) (room : Option Room) (next : Next) → IsCoherent bus → Takes bus message room next
    → IsCoherentWith (after_message bus message room next) (sent_lines bus message)
taken-with bus message room next h t =
    sent-with bus message room (changed_core message.addr next message.line (without_line message.addr room (bus.core message.sender)))
    (made next.state next.marks message.line) h (takes-sends bus message room next h t)

-- the sender's copy of the line afterwards
pub own-after : (bus : Bus) (message : Message) (room : Option Room) (next : Next)
    → own (after_message bus message room next) message.sender message.addr ≡ made next.state next.marks message.line
own-after bus message room next =
    ap (λ (core : CoreState). core.copy message.addr) (at_sender bus message room (changed_core message.addr next message.line (without_line message.addr room (bus.core message.sender))))
    ∙ rw (itself message.addr) refl

pub kept-core : (bus : Bus) (core addr : ℕ) (next : Next)
    → (kept_line bus core addr next).core core ≡ with_copy addr (made next.state next.marks (own bus core addr).cell) (bus.core core)
kept-core bus core addr next = rw (itself core) refl

pub own-kept : (bus : Bus) (core addr : ℕ) (next : Next)
    → own (kept_line bus core addr next) core addr ≡ made next.state next.marks (own bus core addr).cell
own-kept bus core addr next =
    ap (λ (core : CoreState). core.copy addr) (kept-core bus core addr next) ∙ rw (itself addr) refl

-- ---- the conditions of an access

-- a core that runs a speculative attempt may access a line of memory
pub record MayAccess (bus : Bus) (core addr : ℕ) (room : Option Room) : Type 0 where
  pub aligned : addr % bus.line_length ≡ 0
  pub inside : addr + bus.line_length ≤ bus.shape.size
  pub in_cores : core < bus.shape.cores
  pub runs : speculates (bus.core core).attempt ≡ true
  pub victim : IsRoom (bus.core core) room

-- the line that leaves is another one than a line that the core does not hold
pub not_leaving : (core : CoreState) (room : Option Room) (addr : ℕ) → IsRoom core room → is_valid (core.copy addr).state ≡ false
    → leaves room addr ≡ false
not_leaving core room addr h absent =
    elim (leaves room addr) as (λ b. leaves room addr ≡ b → b ≡ false) [
      | true ↦ λ e. absurd (both_ways (is_valid (core.copy addr).state) absent (leaves-held core room h addr e).0)
      | false ↦ λ e. refl
    ] refl

pub none-room : (core : CoreState) → IsRoom core None
none-room core = record { held = λ line e v. absurd (let x : ⊥ = cc in x); unmarked = λ line e. absurd (let x : ⊥ = cc in x) }

-- a speculative access to a line in which the core has modified nothing
pub record Fetches (bus : Bus) (core addr : ℕ) (room : Option Room) (next : Next) (alone : Bool) : Type 0 where
  pub unmodified : (own bus core addr).marks.bytes ≡ 0
  pub victim : IsRoom (bus.core core) room
  pub apart : leaves room addr ≡ false
  pub takes : TakesHold (own bus core addr).state (own bus core addr).marks alone next
  pub within : IsWithinLine bus.line_length next.marks.bytes
  pub up_to_date : IsUpToDate (copy_of next.state next.marks (committed bus addr)) (committed bus addr)
  pub has_room : (next.enters && is_full (bus.core core).buffer) ≡ false

pub fetches-takes : (bus : Bus) (notice : Notice) (core addr : ℕ) (room room2 : Option Room) (next : Next) → notice ≢ Publish → IsCoherent bus
    → MayAccess bus core addr room → is_busy bus (message_of bus notice core addr) ≡ false
    → Fetches bus core addr room2 next (is_alone bus (message_of bus notice core addr))
    → Takes bus (message_of bus notice core addr) room2 next
fetches-takes bus notice core addr room room2 next access h may free t =
    let same : sees bus core addr ≡ committed bus addr = fun_ext (sees-unmodified bus core addr t.unmodified) in
    record {
      aligned = may.aligned;
      inside = may.inside;
      in_cores = may.in_cores;
      free = free;
      past = λ x le. sees-past bus core addr x h le;
      same_line = λ _. same;
      victim = t.victim;
      apart = t.apart;
      valid = speculative-valid next.state t.takes.marked;
      unmarked = λ s. absurd (both_ways (speculates (bus.core core).attempt) s may.runs);
      within = t.within;
      up_to_date = subst (λ (line : ℕ → ℕ). IsUpToDate (copy_of next.state next.marks line) line) (sym same) t.up_to_date;
      exclusive = t.takes.exclusive;
      enters = t.takes.enters;
      stays_required = t.takes.stays_required;
      has_room = t.has_room;
    }

-- ---- loads

-- a mask stays within the line
load-within : (bus : Bus) (core addr offset width : ℕ) → IsCoherent bus
    → IsWithinLine bus.line_length (load_next bus core addr offset width).marks.bytes
load-within bus core addr offset width h =
    let mine : LineCopy = own bus core addr in
    rw (own_load-marks mine.state mine.marks offset width (is_alone bus (message_of bus Load core addr)))
    (marks_of-within_line mine.state mine.marks bus.line_length (h.in_place core addr).mask)

pub load-hit : (bus : Bus) (core addr offset width : ℕ) (room : Option Room) → IsCoherent bus → MayAccess bus core addr room → IsWidth width
    → holds_line bus core addr ≡ true → Keeps bus core addr (load_next bus core addr offset width)
load-hit bus core addr offset width room h may widths held =
    let mine : LineCopy = own bus core addr in
    let alone : Bool = is_alone bus (message_of bus Load core addr) in
    let row = own_load-takes_hold mine.state mine.marks offset width alone in
    record {
      aligned = may.aligned;
      in_cores = may.in_cores;
      runs = may.runs;
      held = held;
      up_to_date = own_load-keeps mine.state mine.marks offset width alone widths held mine.cell (committed bus addr) ((h.lines addr may.aligned).up_to_date core);
      within = load-within bus core addr offset width h;
      exclusive = own_load-held mine.state mine.marks offset width alone held;
      writes_back = row.writes_back;
      required = none_enters _ _ _ row.enters (own_load-enters_none mine.state mine.marks offset width alone) row.stays_required;
    }

pub load-miss : (bus : Bus) (core addr offset width : ℕ) (room : Option Room) → IsCoherent bus → MayAccess bus core addr room → IsWidth width
    → holds_line bus core addr ≡ false → is_busy bus (message_of bus Load core addr) ≡ false
    → Takes bus (message_of bus Load core addr) room (load_next bus core addr offset width)
load-miss bus core addr offset width room h may widths absent free =
    let mine : LineCopy = own bus core addr in
    let alone : Bool = is_alone bus (message_of bus Load core addr) in
    fetches-takes bus Load core addr room room (load_next bus core addr offset width) (λ e. cc) h may free
    (record {
      unmodified = ((h.lines addr may.aligned).up_to_date core).not_modified (invalid-unmarked mine.state absent);
      victim = may.victim;
      apart = not_leaving (bus.core core) room addr may.victim absent;
      takes = own_load-takes_hold mine.state mine.marks offset width alone;
      within = load-within bus core addr offset width h;
      up_to_date = own_load-filled mine.state mine.marks offset width alone widths absent (committed bus addr);
      has_room = and_left _ (is_full (bus.core core).buffer) (own_load-enters_none mine.state mine.marks offset width alone);
    })

-- the causes of a wait that did not come
pub load-goes_on : (held none busy : Bool) → cond held None (cond none (Some NoWay) (cond busy (Some OrbBusy) None)) ≡ None → held ≡ false
    → busy ≡ false
load-goes_on true none busy e f = cc
load-goes_on false true busy e f = cc
load-goes_on false false true e f = cc
load-goes_on false false false e f = refl

-- a load that does not wait: every line is committed as it was
pub load-with : (bus : Bus) (core addr offset width : ℕ) (room : Option Room) → IsCoherent bus → MayAccess bus core addr room
    → IsWidth width → load_wait bus core addr room ≡ None
    → IsCoherentWith (after_load bus core addr offset width room) (committed bus)
load-with bus core addr offset width room h may widths goes = pick (holds_line bus core addr) refl
  where
    pick : (b : Bool) → holds_line bus core addr ≡ b
        → IsCoherentWith (cond b (kept_line bus core addr (load_next bus core addr offset width))
        (after_message bus (message_of bus Load core addr) room (load_next bus core addr offset width))) (committed bus)
    pick true e = kept-with bus core addr (load_next bus core addr offset width) h (load-hit bus core addr offset width room h may widths e)
    pick false e =
        let takes = load-miss bus core addr offset width room h may widths e
        (load-goes_on (holds_line bus core addr) (no_room room) (is_busy bus (message_of bus Load core addr)) goes e) in
        same-lines bus (after_message bus (message_of bus Load core addr) room (load_next bus core addr offset width)) addr (sees bus core addr)
        (takes.same_line (λ e. cc))
        (taken-with bus (message_of bus Load core addr) room (load_next bus core addr offset width) h takes)

-- ---- stores

pub store-within : (bus : Bus) (core addr offset width : ℕ) → IsCoherent bus → offset + width ≤ bus.line_length
    → IsWithinLine bus.line_length (store_next bus core addr offset width).marks.bytes
store-within bus core addr offset width h inside =
    let mine : LineCopy = own bus core addr in
    own_store-within_line mine.state mine.marks offset width (is_alone bus (message_of bus Store core addr)) bus.line_length inside
    (marks_of-within_line mine.state mine.marks bus.line_length (h.in_place core addr).mask)

-- the bytes of the store are in the mask
pub store-masked : (bus : Bus) (core addr offset width : ℕ) (x : ℕ) → is_within offset width x ≡ true
    → has (store_next bus core addr offset width).marks.bytes x ≡ true
store-masked bus core addr offset width x within =
    let mine : LineCopy = own bus core addr in
    own_store-mask mine.state mine.marks offset width (is_alone bus (message_of bus Store core addr)) x
    ∙ or_right (has (marks_of mine.state mine.marks).bytes x) (is_within offset width x) within

-- a core that does not own the line has modified nothing of it
pub unowned-unmodified : (copy : LineCopy) (c : ℕ → ℕ) → IsUpToDate copy c → owns_line copy.state copy.marks ≡ false → copy.marks.bytes ≡ 0
unowned-unmodified copy c h e = by_state copy.state copy.marks e h.not_modified
  where
    by_state : (s : LineState) (marks : Marks) → owns_line s marks ≡ false → (is_speculative s ≡ false → marks.bytes ≡ 0) → marks.bytes ≡ 0
    by_state I marks e f = f refl
    by_state S marks e f = f refl
    by_state E marks e f = f refl
    by_state M marks e f = f refl
    by_state SpS marks e f = eqb-true marks.bytes 0 (not-false (marks.bytes == 0) e)
    by_state SpE marks e f = cc

pub store-owned : (bus : Bus) (core addr offset width : ℕ) (room : Option Room) → IsCoherent bus → MayAccess bus core addr room → IsWidth width
    → offset + width ≤ bus.line_length → owns bus core addr ≡ true → Keeps bus core addr (store_next bus core addr offset width)
store-owned bus core addr offset width room h may widths inside owned =
    let mine : LineCopy = own bus core addr in
    let alone : Bool = is_alone bus (message_of bus Store core addr) in
    let row = own_store-takes_hold mine.state mine.marks offset width alone widths in
    let held : is_valid mine.state ≡ true = owned-valid mine.state mine.marks owned in
    record {
      aligned = may.aligned;
      in_cores = may.in_cores;
      runs = may.runs;
      held = held;
      up_to_date = own_store-keeps mine.state mine.marks offset width alone widths held mine.cell mine.cell (committed bus addr) ((h.lines addr may.aligned).up_to_date core) (λ x _. refl);
      within = store-within bus core addr offset width h inside;
      exclusive = owned-exclusive mine.state mine.marks offset width alone owned;
      writes_back = row.writes_back;
      required = none_enters _ _ _ row.enters (owned-enters_none mine.state mine.marks offset width alone owned) row.stays_required;
    }

-- the line that leaves to make room isn't the one that the access is to
pub room-apart : (bus : Bus) (core addr : ℕ) (room : Option Room) → IsRoom (bus.core core) room → (b : Bool) → holds_line bus core addr ≡ b
    → leaves (cond b None room) addr ≡ false
room-apart bus core addr room victim true e = refl
room-apart bus core addr room victim false e = not_leaving (bus.core core) room addr victim e

pub store-claims : (bus : Bus) (core addr offset width : ℕ) (room : Option Room) → IsCoherent bus → MayAccess bus core addr room → IsWidth width
    → offset + width ≤ bus.line_length → owns bus core addr ≡ false → is_busy bus (message_of bus Store core addr) ≡ false
    → ((store_next bus core addr offset width).enters && is_full (bus.core core).buffer) ≡ false
    → Takes bus (message_of bus Store core addr) (room_for bus core addr room) (store_next bus core addr offset width)
store-claims bus core addr offset width room h may widths inside unowned free has_room =
    let mine : LineCopy = own bus core addr in
    let alone : Bool = is_alone bus (message_of bus Store core addr) in
    let up = (h.lines addr may.aligned).up_to_date core in
    let unmodified : mine.marks.bytes ≡ 0 = unowned-unmodified mine (committed bus addr) up unowned in
    fetches-takes bus Store core addr room (room_for bus core addr room) (store_next bus core addr offset width) (λ e. cc) h may free
    (record {
      unmodified = unmodified;
      victim = victim (holds_line bus core addr) refl;
      apart = room-apart bus core addr room may.victim (holds_line bus core addr) refl;
      takes = own_store-takes_hold mine.state mine.marks offset width alone widths;
      within = store-within bus core addr offset width h inside;
      up_to_date = fresh (holds_line bus core addr) refl;
      has_room = has_room;
    })
  where
    victim : (b : Bool) → holds_line bus core addr ≡ b → IsRoom (bus.core core) (cond b None room)
    victim true e = none-room (bus.core core)
    victim false e = may.victim

    fresh : (b : Bool) → holds_line bus core addr ≡ b
        → IsUpToDate (copy_of (store_next bus core addr offset width).state (store_next bus core addr offset width).marks (committed bus addr)) (committed bus addr)
    fresh true e =
        let mine : LineCopy = own bus core addr in
        let up = (h.lines addr may.aligned).up_to_date core in
        own_store-keeps mine.state mine.marks offset width (is_alone bus (message_of bus Store core addr)) widths e mine.cell (committed bus addr) (committed bus addr) up
        (λ x _. sym (sees-held bus core addr h may.aligned e x ∙ sees-unmodified bus core addr (unowned-unmodified mine (committed bus addr) up unowned) x))
    fresh false e =
        own_store-filled (own bus core addr).state (own bus core addr).marks offset width (is_alone bus (message_of bus Store core addr)) widths e (committed bus addr) (committed bus addr) (λ x _. refl)

pub store-goes_on : (owned held none full busy : Bool)
    → cond owned None (cond (not held && none) (Some NoWay) (cond full (Some OrbFull) (cond busy (Some OrbBusy) None))) ≡ None
    → owned ≡ false → (full ≡ false) × (busy ≡ false)
store-goes_on true held none full busy e g = cc
store-goes_on false true none true busy e g = cc
store-goes_on false true none false true e g = cc
store-goes_on false true none false false e g = (refl, refl)
store-goes_on false false true full busy e g = cc
store-goes_on false false false true busy e g = cc
store-goes_on false false false false true e g = cc
store-goes_on false false false false false e g = (refl, refl)

-- a store leaves the line valid
pub store-valid : (bus : Bus) (core addr offset width : ℕ) → IsWidth width → is_valid (store_next bus core addr offset width).state ≡ true
store-valid bus core addr offset width widths =
    speculative-valid (store_next bus core addr offset width).state
    (own_store-takes_hold (own bus core addr).state (own bus core addr).marks offset width (is_alone bus (message_of bus Store core addr)) widths).marked

-- the core has taken hold of the line of its store
pub record IsClaimed (old new : Bus) (core addr offset width : ℕ) : Type 0 where
  pub coherent : IsCoherentWith new (committed old)
  pub shape : new.shape ≡ old.shape
  pub length : new.line_length ≡ old.line_length
  pub attempt : (new.core core).attempt ≡ (old.core core).attempt
  pub held : is_valid (own new core addr).state ≡ true
  pub masked : (x : ℕ) → is_within offset width x ≡ true → has (own new core addr).marks.bytes x ≡ true

pub claim-with : (bus : Bus) (core addr offset width : ℕ) (room : Option Room) → IsCoherent bus → MayAccess bus core addr room → IsWidth width
    → offset + width ≤ bus.line_length → store_wait bus core addr offset width room ≡ None
    → IsClaimed bus (after_claim bus core addr offset width room) core addr offset width
claim-with bus core addr offset width room h may widths inside goes = pick (owns bus core addr) refl
  where
    pick : (b : Bool) → owns bus core addr ≡ b
        → IsClaimed bus (cond b (kept_line bus core addr (store_next bus core addr offset width))
        (after_message bus (message_of bus Store core addr) (room_for bus core addr room) (store_next bus core addr offset width))) core addr offset width
    pick true e =
        let kept = own-kept bus core addr (store_next bus core addr offset width) in
        let valid = store-valid bus core addr offset width widths in
        record {
          coherent = kept-with bus core addr (store_next bus core addr offset width) h (store-owned bus core addr offset width room h may widths inside e);
          shape = refl;
          length = refl;
          attempt = rw (itself core) refl;
          held = subst (λ (copy : LineCopy). is_valid copy.state ≡ true) (sym kept) (rw valid valid);
          masked = λ x within. subst (λ (copy : LineCopy). has copy.marks.bytes x ≡ true) (sym kept) (rw valid (store-masked bus core addr offset width x within));
        }
    pick false e =
        let on = store-goes_on (owns bus core addr) (holds_line bus core addr) (no_room room) ((store_next bus core addr offset width).enters && is_full (bus.core core).buffer) (is_busy bus (message_of bus Store core addr)) goes e in
        let takes = store-claims bus core addr offset width room h may widths inside e on.1 on.0 in
        let after = own-after bus (message_of bus Store core addr) (room_for bus core addr room) (store_next bus core addr offset width) in
        let valid = store-valid bus core addr offset width widths in
        record {
          coherent =
              same-lines bus (after_message bus (message_of bus Store core addr) (room_for bus core addr room) (store_next bus core addr offset width)) addr (sees bus core addr)
              (takes.same_line (λ e. cc))
              (taken-with bus (message_of bus Store core addr) (room_for bus core addr room) (store_next bus core addr offset width) h takes);
          shape = refl;
          length = refl;
          attempt = rw (itself core) refl;
          held = subst (λ (copy : LineCopy). is_valid copy.state ≡ true) (sym after) (rw valid valid);
          masked = λ x within. subst (λ (copy : LineCopy). has copy.marks.bytes x ≡ true) (sym after) (rw valid (store-masked bus core addr offset width x within));
        }

-- its bytes may be written then
pub claim-writes : (bus : Bus) (core addr offset width : ℕ) (room : Option Room) → MayAccess bus core addr room → offset + width ≤ bus.line_length
    → IsClaimed bus (after_claim bus core addr offset width room) core addr offset width
    → Writes (after_claim bus core addr offset width room) core addr offset width
claim-writes bus core addr offset width room may inside claimed =
    record {
      aligned = rw claimed.length may.aligned;
      in_cores = rw claimed.shape may.in_cores;
      held = claimed.held;
      in_line = rw claimed.length inside;
      masked = claimed.masked;
    }

-- a store that does not wait: every line is committed as it was
pub store-with : (bus : Bus) (core addr offset width value : ℕ) (room : Option Room) → IsCoherent bus → MayAccess bus core addr room
    → IsWidth width → offset + width ≤ bus.line_length → store_wait bus core addr offset width room ≡ None
    → IsCoherentWith (after_store bus core addr offset width value room) (committed bus)
store-with bus core addr offset width value room h may widths inside goes =
    let mid : Bus = after_claim bus core addr offset width room in
    let claimed = claim-with bus core addr offset width room h may widths inside goes in
    with-same (with_bytes mid core addr offset width value) (committed mid) (committed bus)
    (λ a aligned x. committed-with mid (committed bus) claimed.coherent a aligned x)
    (written-with mid core addr offset width value (coherent-with mid (committed bus) claimed.coherent)
    (claim-writes bus core addr offset width room may inside claimed))
