-- Straight loads and stores do what the store's rule says.
use Rattle.std.proofs.Common.{◌≡◌, ◌≢◌, ℕ, ◌+◌, ◌-◌, ◌^◌, ◌%◌, ◌<◌, ◌≤◌, ◌==◌, ◌&&◌, Bool, true, false, cond, Option, refl, sym, ap, subst, ◌∙◌}
use Rattle.memory_bytes.specs.Bytes.{byte_of, number_at}
use Rattle.memory_bytes.proofs.Bytes.{number_at_same}
use Rattle.spec_states.specs.declared.line.LineState.{LineState}
use Rattle.spec_states.specs.declared.line.LineState.TheVariants.{S, E, M}
use Rattle.spec_states.specs.declared.next.Next.{Next}
use Rattle.spec_states.specs.Mask.{is_within}
use Rattle.spec_states.specs.States.{is_exclusive}
use Rattle.violations.specs.View.{attempt_of, is_accessed, IsLoad, Runs}
use Rattle.violations.specs.Rule.{HurtsLater, Guards, LoadsStraight, StoresStraight}
use Rattle.bus_states.specs.declared.notice.Notice.TheVariants.{Load}
use Rattle.bus_states.specs.Bus.{CoreState, Bus, committed, sees, line_of, offset_of}
use Rattle.bus_states.specs.Coherent.{IsCoherent, speculates}
use Rattle.bus_states.specs.Messages.{Room, IsRoom, Message, message_of, violates, is_alone, changed_core, with_copy, without_line, after_message}
use Rattle.bus_states.specs.Speculative.{own, holds_line, room_for}
use Rattle.bus_states.specs.Straight.{unmarked_next, after_straight_load, straight_load_violates, stores_alone, straight_store_message, after_straight_store, straight_store_violates}
use Rattle.bus_states.specs.Views.{view_of, AreOrdered}
use Rattle.bus_states.proofs.Accesses.{Takes, takes-sends}
use Rattle.bus_states.proofs.Addresses.{line-aligned}
use Rattle.bus_states.proofs.AttemptRules.{at_core, with-committed}
use Rattle.bus_states.proofs.Coherence.{committed-with, sees-unmodified}
use Rattle.bus_states.proofs.Copies.{itself, not_so, made}
use Rattle.bus_states.proofs.Guarding.{loaded-shared}
use Rattle.bus_states.proofs.Hurting.{message-hurts, quiet-hurts, hurts-none, hurts-same}
use Rattle.bus_states.proofs.InLine.{load-lies, number-line, over-line}
use Rattle.bus_states.proofs.Ordered.{clear-of, first-straight, runs-there}
use Rattle.bus_states.proofs.Sending.{at_sender}
use Rattle.bus_states.proofs.Showing.{committed_at, unowned-sees}
use Rattle.bus_states.proofs.StraightAccesses.{IsFirst, MayAccessStraight, straight_load-takes, straight_load-with, alone-exclusive, straight_store-takes, straight_store-quietly, straight_store-with, stored_alone, stored_lines}
use Rattle.bus_states.proofs.Taking.{by_line}
use Rattle.bus_states.proofs.Violating.{load-crowds, access-meets, guards-loaded, publish-tells, in_case}

-- a straight core may access the line of its load or store
pub may-access_straight : (bus : Bus) (core address width : ℕ) (room : Option Room) → IsCoherent bus → AreOrdered bus
    → Runs (view_of bus) core true → IsLoad bus.shape address width → IsRoom (bus.core core) room
    → MayAccessStraight bus core (line_of bus.line_length address) room
may-access_straight bus core address width room h ordered runs access victim =
    record {
      aligned = line-aligned bus.line_length address h.length_is;
      inside = (load-lies bus address width h access).inside;
      in_cores = runs-there bus core (attempt_of runs.epoch true) h runs.is;
      straight = ap speculates runs.is;
      first = first-straight bus core ordered runs;
      victim = victim;
    }

-- what a straight access makes of the other cores and of the core's attempt
pub record GoesStraight (old new : Bus) (core : ℕ) (hurt : ℕ → Bool) : Type 0 where
  pub shape : new.shape ≡ old.shape
  pub length : new.line_length ≡ old.line_length
  pub others : HurtsLater (view_of old) (view_of new) core hurt
  pub attempt : (new.core core).attempt ≡ (old.core core).attempt

-- by a message
told-straight : (bus : Bus) (message : Message) (room : Option Room) (next : Next) → IsCoherent bus → IsFirst bus message.sender
    → Takes bus message room next → GoesStraight bus (after_message bus message room next) message.sender (violates bus message)
told-straight bus message room next h first takes =
    let state : CoreState = changed_core message.addr next message.line (without_line message.addr room (bus.core message.sender)) in
    record {
      shape = refl;
      length = refl;
      others = message-hurts bus message room state (made next.state next.marks message.line) h (takes-sends bus message room next h takes) (λ _. first);
      attempt = ap (λ (state : CoreState). state.attempt) (at_sender bus message room state);
    }

-- ---- loads

pub load-straight : (bus : Bus) (core addr : ℕ) (room : Option Room) → IsCoherent bus → MayAccessStraight bus core addr room
    → GoesStraight bus (after_straight_load bus core addr room) core (straight_load_violates bus core addr)
load-straight bus core addr room h may = pick (holds_line bus core addr) refl
  where
    pick : (b : Bool) → holds_line bus core addr ≡ b
        → GoesStraight bus (cond b bus (after_message bus (message_of bus Load core addr) room (unmarked_next (cond (is_alone bus (message_of bus Load core addr)) E S)))) core
        (λ k. cond b false (violates bus (message_of bus Load core addr) k))
    pick true e = record { shape = refl; length = refl; others = hurts-none (view_of bus) core (unowned-sees bus); attempt = refl }
    pick false e = told-straight bus (message_of bus Load core addr) room _ h may.first (straight_load-takes bus core addr room h may e)

-- a straight load that gives what the core sees, which is what is committed
pub straight_load-loads_straight : (bus : Bus) (core address width value : ℕ) (room : Option Room) (hurt : ℕ → Bool) → IsCoherent bus → AreOrdered bus
    → Runs (view_of bus) core true → IsLoad bus.shape address width → IsRoom (bus.core core) room
    → value ≡ number_at (sees bus core (line_of bus.line_length address)) (offset_of bus.line_length address) width → value < 256 ^ width
    → ((k : ℕ) → hurt k ≡ straight_load_violates bus core (line_of bus.line_length address) k)
    → LoadsStraight (view_of bus) (view_of (after_straight_load bus core (line_of bus.line_length address) room)) core address width value hurt
straight_load-loads_straight bus core address width value room hurt h ordered runs access victim is small are =
    let addr : ℕ = line_of bus.line_length address in
    let may = may-access_straight bus core address width room h ordered runs access victim in
    let done = load-straight bus core addr room h may in
    let lies = load-lies bus address width h access in
    let clear = clear-of bus core h (ap speculates runs.is) in
    record {
      shape = done.shape;
      cached = refl;
      others = hurts-same (view_of bus) (view_of (after_straight_load bus core addr room)) core hurt (straight_load_violates bus core addr) are done.others;
      committed = with-committed bus (after_straight_load bus core addr room) h done.length (straight_load-with bus core addr room h may);
      value_is =
          is ∙ number-line bus.line_length bus.shape.size address width (sees bus core) lies
          ∙ number_at_same ((view_of bus).sees core) (view_of bus).committed address width (λ a low high. clear.sees a);
      small = small;
      attempt = done.attempt;
      crowded =
          λ k hit. load-crowds bus (message_of bus Load core addr) k address h refl refl
          (in_case (holds_line bus core addr) (violates bus (message_of bus Load core addr) k) (sym (are k) ∙ hit));
    }

-- ---- stores

pub store-straight : (bus : Bus) (core addr offset width value : ℕ) (room : Option Room) → IsCoherent bus → MayAccessStraight bus core addr room
    → offset + width ≤ bus.line_length
    → GoesStraight bus (after_straight_store bus core addr offset width value room) core (straight_store_violates bus core addr offset width value)
store-straight bus core addr offset width value room h may inside = pick (stores_alone (own bus core addr).state) refl
  where
    pick : (b : Bool) → stores_alone (own bus core addr).state ≡ b
        → GoesStraight bus (cond b
        (record bus { core = λ k. cond (k == core) (with_copy addr (stored_alone bus core addr offset width value) (bus.core core)) (bus.core k) })
        (after_message bus (straight_store_message bus core addr offset width value) (room_for bus core addr room) (unmarked_next (cond (is_alone bus (straight_store_message bus core addr offset width value)) M S)))) core
        (λ k. cond b false (violates bus (straight_store_message bus core addr offset width value) k))
    pick true e =
        let state : CoreState = with_copy addr (stored_alone bus core addr offset width value) (bus.core core) in
        record {
          shape = refl;
          length = refl;
          others = quiet-hurts bus core state bus.memory _ h (straight_store-quietly bus core addr offset width value room h may inside e);
          attempt = ap (λ (state : CoreState). state.attempt) (at_core bus core state);
        }
    pick false e =
        told-straight bus (straight_store_message bus core addr offset width value) (room_for bus core addr room) _ h may.first
        (straight_store-takes bus core addr offset width value room h may inside)

-- a line with the bytes of a store
line-stored : (bus : Bus) (core addr offset width value : ℕ) (a x : ℕ) → ((x : ℕ) → sees bus core addr x ≡ committed bus addr x)
    → stored_lines bus core addr offset width value a x
    ≡ cond ((addr == a) && is_within offset width x) (byte_of value (x - offset)) (committed bus a x)
line-stored bus core addr offset width value a x same =
    by_line (λ (a : ℕ). stored_lines bus core addr offset width value a x ≡ cond ((addr == a) && is_within offset width x) (byte_of value (x - offset)) (committed bus a x)) addr a
    (rw (itself addr) (ap (λ (byte : ℕ). cond (is_within offset width x) (byte_of value (x - offset)) byte) (same x))) (λ e. rw e refl)

-- all others that guard one of its bytes are violated
straight_store-tells : (bus : Bus) (core address width value k : ℕ) → IsCoherent bus → IsLoad bus.shape address width → k ≢ core
    → Guards (view_of bus) k (is_accessed address width)
    → straight_store_violates bus core (line_of bus.line_length address) (offset_of bus.line_length address) width value k ≡ true
straight_store-tells bus core address width value k h access away guards =
    let addr : ℕ = line_of bus.line_length address in
    let aligned : addr % bus.line_length ≡ 0 = line-aligned bus.line_length address h.length_is in
    let loaded = guards-loaded bus k address width h access guards in
    let state : LineState = (own bus core addr).state in
    rw (not_so (stores_alone state) (is_exclusive state) (alone-exclusive state) (loaded-shared bus core k addr h aligned (λ same. away (sym same)) loaded))
    (publish-tells bus (straight_store_message bus core addr (offset_of bus.line_length address) width value) k h aligned refl away loaded)

pub straight_store-stores_straight : (bus : Bus) (core address width value : ℕ) (room : Option Room) (hurt : ℕ → Bool) → IsCoherent bus → AreOrdered bus
    → Runs (view_of bus) core true → IsLoad bus.shape address width → IsRoom (bus.core core) room
    → ((k : ℕ) → hurt k ≡ straight_store_violates bus core (line_of bus.line_length address) (offset_of bus.line_length address) width value k)
    → StoresStraight (view_of bus)
    (view_of (after_straight_store bus core (line_of bus.line_length address) (offset_of bus.line_length address) width value room)) core address width value hurt
straight_store-stores_straight bus core address width value room hurt h ordered runs access victim are =
    let addr : ℕ = line_of bus.line_length address in
    let offset : ℕ = offset_of bus.line_length address in
    let new : Bus = after_straight_store bus core addr offset width value room in
    let may = may-access_straight bus core address width room h ordered runs access victim in
    let lies = load-lies bus address width h access in
    let done = store-straight bus core addr offset width value room h may lies.ends in
    record {
      shape = done.shape;
      cached = refl;
      others = hurts-same (view_of bus) (view_of new) core hurt (straight_store_violates bus core addr offset width value) are done.others;
      committed =
          λ a. committed_at bus new done.length a
          ∙ committed-with new (stored_lines bus core addr offset width value) (straight_store-with bus core addr offset width value room h may lies.ends) (line_of bus.line_length a)
          (subst (λ (n : ℕ). line_of bus.line_length a % n ≡ 0) (sym done.length) (line-aligned bus.line_length a h.length_is)) (offset_of bus.line_length a)
          ∙ line-stored bus core addr offset width value (line_of bus.line_length a) (offset_of bus.line_length a)
          (λ x. sees-unmodified bus core addr (((h.lines addr may.aligned).up_to_date core).not_modified ((h.cores core).unmarked addr may.straight)) x)
          ∙ sym (over-line bus.line_length bus.shape.size address width value (view_of bus).committed a lies);
      attempt = done.attempt;
      meets =
          λ k hit. access-meets bus (straight_store_message bus core addr offset width value) k address width h access refl
          (in_case (stores_alone (own bus core addr).state) (violates bus (straight_store_message bus core addr offset width value) k) (sym (are k) ∙ hit));
      tells = λ k away guards. are k ∙ straight_store-tells bus core address width value k h access away guards;
    }
