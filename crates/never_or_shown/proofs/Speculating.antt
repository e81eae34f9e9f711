-- Speculative loads and stores of a core: nobody is violated, and every core stays in order.
use Rattle.std.proofs.Common.{◌≡◌, ◌≢◌, ◌⊎◌, ℕ, zero, suc, ◌==◌, ◌||◌, ◌&&◌, not, Bool, true, false, cond, Option, None, refl, sym, ap, subst, ◌∙◌, inl, inr}
use Rattle.std.proofs.lemmas.Bool.{and_parts, both_ways, cases_Bool, not-false}
use Rattle.memory_bytes.specs.Bytes.{IsWidth}
use Rattle.spec_history.proofs.Replay.Joining.{not_same}
use Rattle.spec_states.specs.declared.line.LineState.{LineState}
use Rattle.spec_states.specs.declared.line.LineState.TheVariants.{I, S, E, M, SpS, SpE}
use Rattle.spec_states.specs.declared.line.Marks.{Marks}
use Rattle.spec_states.specs.declared.next.Next.{Next}
use Rattle.spec_states.specs.Copies.{LineCopy}
use Rattle.spec_states.specs.Mask.{has, has_all, is_within}
use Rattle.spec_states.specs.States.{is_valid, is_speculative}
use Rattle.spec_states.specs.Tables.{is_written, marks_of, other_store, others_table, own_store_table}
use Rattle.spec_states.proofs.RowLaws.{own_load-enters_none, own_store-takes_hold, nonzero, owned-enters_none, speculative-valid}
use Rattle.cache_lines.specs.Protocol.{copy_with_number}
use Rattle.violations.specs.declared.attempt.Attempt.{Attempt}
use Rattle.violations.specs.View.{epoch_of}
use Rattle.bus_states.specs.declared.notice.Notice.TheVariants.{Load, Store}
use Rattle.bus_states.specs.Bus.{CoreState, Bus, is_later, some_core}
use Rattle.bus_states.specs.Coherent.{speculates}
use Rattle.bus_states.specs.Messages.{IsRoom, Message, Room, after_message, is_alone, leaves, message_of, order, remains, reply, violates, with_copy}
use Rattle.bus_states.specs.Speculative.{after_claim, after_load, after_store, holds_line, kept_line, load_next, own, owns, room_for, store_next, with_bytes}
use Rattle.bus_states.proofs.Accesses.{none-room, not_leaving, own-after, own-kept, store-masked}
use Rattle.bus_states.proofs.Copies.{made}
use Rattle.never_or_shown.proofs.Tidy.{IsTidy, IsChange, Stays, made-mask, with_copy-tidy, with_copy-masks, stays-then}
use Rattle.never_or_shown.proofs.Accesses.{OfEpochs, AreTidy, MayTell, Goes, attempts, limits, epoch_on, message-goes, alone-goes, takes-stays, keeps-stays, load-change, load-mask, store-change, store-mask}

-- one call after another
pub goes-tidy : (R W H : OfEpochs) (old new : Bus) → Goes R W H old new → AreTidy R W H new
goes-tidy R W H old new goes k =
    subst (λ (a : Option Attempt). IsTidy (R (epoch_of a)) (W (epoch_of a)) (H (epoch_of a)) (new.core k))
    (sym (goes.core k).attempt) (goes.core k).tidy

pub goes-then : (R W H : OfEpochs) (a b c : Bus) → Goes R W H a b → Goes R W H b c → Goes R W H a c
goes-then R W H a b c first second = record {
  shape = second.shape ∙ first.shape;
  length = second.length ∙ first.length;
  core = λ k. stays-then (R (epoch_on a k)) (W (epoch_on a k)) (H (epoch_on a k)) (a.core k) (b.core k) (c.core k) (first.core k)
      (subst (λ (x : Option Attempt). Stays (R (epoch_of x)) (W (epoch_of x)) (H (epoch_of x)) (b.core k) (c.core k))
      (first.core k).attempt (second.core k));
}

-- ---- loads

module _ (R W H : OfEpochs) (bus : Bus) (h : AreTidy R W H bus) (core addr offset width limit : ℕ) (room : Option Room) (wide : IsWidth width)
    (runs : speculates (bus.core core).attempt ≡ true) (is_room : IsRoom (bus.core core) room) where
  abbrev mine : CoreState
  mine = bus.core core

  module _ (may : MayTell R W H (attempts bus) (limits bus) core Load addr limit)
      (reads : has_all (marks_of (own bus core addr).state (own bus core addr).marks).bytes offset width ≡ false → R (epoch_on bus core) addr) where
    abbrev loads : Next
    loads = load_next bus core addr offset width

    alone : Bool
    alone = is_alone bus (message_of bus Load core addr)

    change : IsChange (R (epoch_on bus core) addr) (W (epoch_on bus core) addr) (H (epoch_on bus core) addr) mine.attempt (mine.copy addr) loads
    change = load-change (R (epoch_on bus core)) (W (epoch_on bus core)) (H (epoch_on bus core)) mine (h core) addr offset width wide
        (is_alone bus (message_of bus Load core addr)) runs reads

    mask : (x : ℕ) → has (mine.copy addr).marks.bytes x ≡ true → (is_valid loads.state ≡ true) × (has loads.marks.bytes x ≡ true)
    mask = load-mask (R (epoch_on bus core)) (W (epoch_on bus core)) (H (epoch_on bus core)) mine (h core) addr offset width wide
        (is_alone bus (message_of bus Load core addr)) runs

    hit : Goes R W H bus (kept_line bus core addr loads)
    hit = alone-goes R W H bus (kept_line bus core addr loads) core (with_copy addr (made loads.state loads.marks (own bus core addr).cell) mine) h refl refl refl
        (keeps-stays (R (epoch_on bus core)) (W (epoch_on bus core)) (H (epoch_on bus core)) mine (h core) addr loads change mask (own bus core addr).cell
        (own_load-enters_none (own bus core addr).state (own bus core addr).marks offset width (is_alone bus (message_of bus Load core addr))))

    miss : is_valid (mine.copy addr).state ≡ false → Goes R W H bus (after_message bus (message_of bus Load core addr) room loads)
    miss absent = message-goes R W H bus (message_of bus Load core addr) (λ k away. h k) limit may room loads
        (takes-stays (R (epoch_on bus core)) (W (epoch_on bus core)) (H (epoch_on bus core)) mine (h core) addr loads change mask room (message_of bus Load core addr).line is_room
        (not_leaving mine room addr is_room absent))

    pub load-goes : Goes R W H bus (after_load bus core addr offset width room)
    load-goes = pick (holds_line bus core addr) refl
      where
        pick : (b : Bool) → holds_line bus core addr ≡ b
            → Goes R W H bus (cond b (kept_line bus core addr loads) (after_message bus (message_of bus Load core addr) room loads))
        pick true e = hit
        pick false e = miss e

-- ---- stores

-- some core passes
some_passes : (n : ℕ) (test : ℕ → Bool) → some_core n test ≡ true → (k : ℕ) × (test k ≡ true)
unfolding some_core
some_passes zero test is = absurd cc
some_passes (suc n) test is = elim (cases_Bool (test n)) [
  | inl here ↦ (n, here)
  | inr out ↦ some_passes n test (sym (ap (λ b. b || some_core n test) out) ∙ is)
]

-- a store enters a buffer only where another copy remains
not_alone : (s : LineState) (modified alone : Bool) → (own_store_table s modified alone).enters ≡ true → alone ≡ false
not_alone s modified false e = refl
not_alone I modified true e = absurd cc
not_alone S modified true e = absurd cc
not_alone E modified true e = absurd cc
not_alone M modified true e = absurd cc
not_alone SpS true true e = absurd cc
not_alone SpS false true e = absurd cc
not_alone SpE modified true e = absurd cc

-- and of the copies that remain each is marked
remains_marked : (s : LineState) (marks : Marks) (later : Bool) → is_valid (other_store s marks (order later)).state ≡ true → is_speculative s ≡ true
remains_marked s marks true is = by_state s marks.loaded (is_written marks) is
  where
    by_state : (s : LineState) (l m : Bool) → is_valid (others_table s l m).store_later.state ≡ true → is_speculative s ≡ true
    by_state I l m e = absurd cc
    by_state S l m e = absurd cc
    by_state E l m e = absurd cc
    by_state M l m e = absurd cc
    by_state SpS l m e = refl
    by_state SpE l m e = refl
remains_marked s marks false is = by_state s marks.loaded (is_written marks) is
  where
    by_state : (s : LineState) (l m : Bool) → is_valid (others_table s l m).store_earlier.state ≡ true → is_speculative s ≡ true
    by_state I l m e = absurd cc
    by_state S l m e = absurd cc
    by_state E l m e = absurd cc
    by_state M l m e = absurd cc
    by_state SpS l m e = refl
    by_state SpE l m e = refl

module _ (R W H : OfEpochs) (bus : Bus) (h : AreTidy R W H bus) (core addr offset width limit : ℕ) (room : Option Room) (wide : IsWidth width)
    (runs : speculates (bus.core core).attempt ≡ true) (is_room : IsRoom (bus.core core) room)
    (may : MayTell R W H (attempts bus) (limits bus) core Store addr limit) (writes : W (epoch_on bus core) addr)
    (met : (k : ℕ) → k ≢ core → speculates (bus.core k).attempt ≡ true → R (epoch_on bus k) addr ⊎ W (epoch_on bus k) addr → H (epoch_on bus core) addr) where
  abbrev own_core : CoreState
  own_core = bus.core core

  abbrev stores : Next
  stores = store_next bus core addr offset width

  abbrev tells : Message
  tells = message_of bus Store core addr

  -- a core whose copy remains
  beside : (k : ℕ) → remains bus tells k ≡ true → H (epoch_on bus core) addr
  beside k is =
      let first = and_parts (not (k == core)) (not (violates bus tells k) && is_valid (reply bus tells k).state) is in
      let valid = (and_parts (not (violates bus tells k)) (is_valid (reply bus tells k).state) first.1).1 in
      let copy : LineCopy = (bus.core k).copy addr in
      let marked = remains_marked copy.state copy.marks (is_later bus core k) valid in
      let fit = (h k).fit addr in
      met k (not_same k core first.0) (running k marked) (touched copy.marks fit.read fit.written (fit.right.marked marked))
    where
      running : (k : ℕ) → is_speculative ((bus.core k).copy addr).state ≡ true → speculates (bus.core k).attempt ≡ true
      running k marked = elim (cases_Bool (speculates (bus.core k).attempt)) [
        | inl is ↦ is
        | inr out ↦ absurd (both_ways (is_speculative ((bus.core k).copy addr).state) ((h k).unmarked out addr) marked)
      ]

      touched : {A B : Type 0} (marks : Marks) → (marks.loaded ≡ true → A) → (is_written marks ≡ true → B) → (marks.loaded ≡ false → marks.bytes ≢ 0) → A ⊎ B
      touched marks read written marked = elim (cases_Bool marks.loaded) [
        | inl is ↦ inl (read is)
        | inr out ↦ inr (written (nonzero marks.bytes (marked out)))
      ]

  enters : stores.enters ≡ true → H (epoch_on bus core) addr
  enters is =
      let copy : LineCopy = own bus core addr in
      let some = some_passes bus.shape.cores (remains bus tells)
      (not-false (some_core bus.shape.cores (remains bus tells)) (not_alone copy.state (is_written (marks_of copy.state copy.marks)) (is_alone bus tells) is)) in
      beside some.0 some.1

  store_changes : IsChange (R (epoch_on bus core) addr) (W (epoch_on bus core) addr) (H (epoch_on bus core) addr) own_core.attempt (own_core.copy addr) stores
  store_changes = store-change (R (epoch_on bus core)) (W (epoch_on bus core)) (H (epoch_on bus core)) own_core (h core) addr offset width wide (is_alone bus tells) runs writes enters

  store_masks : (x : ℕ) → has (own_core.copy addr).marks.bytes x ≡ true → (is_valid stores.state ≡ true) × (has stores.marks.bytes x ≡ true)
  store_masks = store-mask (R (epoch_on bus core)) (W (epoch_on bus core)) (H (epoch_on bus core)) own_core (h core) addr offset width wide (is_alone bus tells) runs

  owned : owns bus core addr ≡ true → Goes R W H bus (kept_line bus core addr stores)
  owned is = alone-goes R W H bus (kept_line bus core addr stores) core (with_copy addr (made stores.state stores.marks (own bus core addr).cell) own_core) h refl refl refl
      (keeps-stays (R (epoch_on bus core)) (W (epoch_on bus core)) (H (epoch_on bus core)) own_core (h core) addr stores store_changes store_masks (own bus core addr).cell
      (owned-enters_none (own bus core addr).state (own bus core addr).marks offset width (is_alone bus tells) is))

  claimed : Goes R W H bus (after_message bus tells (room_for bus core addr room) stores)
  claimed = pick (holds_line bus core addr) refl
    where
      take : (r : Option Room) → IsRoom own_core r → leaves r addr ≡ false → Goes R W H bus (after_message bus tells r stores)
      take r is apart = message-goes R W H bus tells (λ k away. h k) limit may r stores
          (takes-stays (R (epoch_on bus core)) (W (epoch_on bus core)) (H (epoch_on bus core)) own_core (h core) addr stores store_changes store_masks r tells.line is apart)

      pick : (b : Bool) → holds_line bus core addr ≡ b → Goes R W H bus (after_message bus tells (cond b None room) stores)
      pick true e = take None (none-room own_core) refl
      pick false e = take room is_room (not_leaving own_core room addr is_room e)

  claim-goes : Goes R W H bus (after_claim bus core addr offset width room)
  claim-goes = pick (owns bus core addr) refl
    where
      pick : (b : Bool) → owns bus core addr ≡ b → Goes R W H bus (cond b (kept_line bus core addr stores) (after_message bus tells (room_for bus core addr room) stores))
      pick true e = owned e
      pick false e = claimed

  -- the bytes are written
  bytes-go : (value : ℕ) (b : Bus) → AreTidy R W H b → Goes R W H b (with_bytes b core addr offset width value)
  bytes-go value b t =
      let copy : LineCopy = (b.core core).copy addr in
      alone-goes R W H b (with_bytes b core addr offset width value) core (with_copy addr (copy_with_number offset width value copy) (b.core core)) t refl refl refl
      (record {
        tidy = with_copy-tidy (R (epoch_on b core)) (W (epoch_on b core)) (H (epoch_on b core)) (b.core core) (t core) addr (copy_with_number offset width value copy)
            ((t core).fit addr) refl (λ quiet. (t core).unmarked quiet addr);
        masks = with_copy-masks (b.core core) addr (copy_with_number offset width value copy) (λ x had. had);
        attempt = refl;
        limit = refl;
      })

  pub store-goes : (value : ℕ) → Goes R W H bus (after_store bus core addr offset width value room)
  store-goes value =
      goes-then R W H bus (after_claim bus core addr offset width room) (after_store bus core addr offset width value room) claim-goes
      (bytes-go value (after_claim bus core addr offset width room) (goes-tidy R W H bus (after_claim bus core addr offset width room) claim-goes))

  -- and the core's mask has them
  pub store-has : (value x : ℕ) → is_within offset width x ≡ true → has (own (after_store bus core addr offset width value room) core addr).marks.bytes x ≡ true
  store-has value x within =
      ((bytes-go value (after_claim bus core addr offset width room) (goes-tidy R W H bus (after_claim bus core addr offset width room) claim-goes)).core core).masks addr x
      (pick (owns bus core addr))
    where
      there : has (made stores.state stores.marks (own bus core addr).cell).marks.bytes x ≡ true
      there = made-mask stores.state stores.marks (own bus core addr).cell x
          (speculative-valid stores.state (own_store-takes_hold (own bus core addr).state (own bus core addr).marks offset width (is_alone bus tells) wide).marked)
          (store-masked bus core addr offset width x within)

      pick : (b : Bool) → has (own (cond b (kept_line bus core addr stores) (after_message bus tells (room_for bus core addr room) stores)) core addr).marks.bytes x ≡ true
      pick true = ap (λ (c : LineCopy). has c.marks.bytes x) (own-kept bus core addr stores) ∙ there
      pick false = ap (λ (c : LineCopy). has c.marks.bytes x) (own-after bus tells (room_for bus core addr room) stores)
          ∙ made-mask stores.state stores.marks tells.line x
          (speculative-valid stores.state (own_store-takes_hold (own bus core addr).state (own bus core addr).marks offset width (is_alone bus tells) wide).marked)
          (store-masked bus core addr offset width x within)
