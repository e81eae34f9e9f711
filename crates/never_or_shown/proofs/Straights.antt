-- What a publish, a straight access, and a begin or an end of an attempt make of a bus, where they can violate nobody.
use Rattle.std.proofs.Common.{◌≡◌, ℕ, ◌==◌, ◌&&◌, not, Bool, true, false, cond, List, [], ◌∷◌, Option, None, refl, sym, ap, subst, ◌∙◌, inl, inr}
use Rattle.std.proofs.Math.Path.{fun_ext}
use Rattle.std.proofs.lemmas.Bool.{both_ways, cases_eq, or_left, or_right}
use Rattle.spec_states.specs.declared.line.LineState.{LineState}
use Rattle.spec_states.specs.declared.line.LineState.TheVariants.{S, E, M}
use Rattle.spec_states.specs.declared.line.Marks.{Marks}
use Rattle.spec_states.specs.declared.next.Next.{Next}
use Rattle.spec_states.specs.Copies.{LineCopy}
use Rattle.spec_states.specs.Mask.{has}
use Rattle.spec_states.specs.Rows.{requires_ownership}
use Rattle.spec_states.specs.States.{is_speculative}
use Rattle.spec_states.specs.Tables.{is_written, no_marks, settlement}
use Rattle.spec_states.proofs.RowLaws.{settlement-settles}
use Rattle.cache_lines.specs.Protocol.{changed_copy, copy_with_number}
use Rattle.orb.specs.Lines.{holds}
use Rattle.violations.specs.declared.attempt.Attempt.{Attempt}
use Rattle.violations.specs.View.{epoch_of}
use Rattle.bus_states.specs.declared.notice.Notice.TheVariants.{Load, Publish}
use Rattle.bus_states.specs.Attempts.{with_core}
use Rattle.bus_states.specs.Bus.{CoreState, Bus}
use Rattle.bus_states.specs.Coherent.{speculates}
use Rattle.bus_states.specs.Messages.{IsRoom, Message, Room, after_message, changed_core, heard_core, is_alone, leaves, message_of, with_copy, without_line}
use Rattle.bus_states.specs.Speculative.{holds_line, own, room_for}
use Rattle.bus_states.specs.Straight.{after_publish, after_publish_line, after_publish_lines, after_settling, after_straight_load, after_straight_store, publish_next, settled_core, stores_alone, straight_attempt, straight_store_message, unmarked_next}
use Rattle.bus_states.proofs.Accesses.{none-room, not_leaving}
use Rattle.bus_states.proofs.Copies.{itself, made-required, made-state, unrequired}
use Rattle.bus_states.proofs.Cores.{entry-limit}
use Rattle.never_or_shown.proofs.Tidy.{IsFit, IsTidy, IsChange, Stays, clear-tidy, made-fit, mask-marked, with_copy-tidy, with_copy-masks, stays-same, stays-then}
use Rattle.never_or_shown.proofs.Accesses.{OfEpochs, AreTidy, OthersTidy, MayTell, Beside, Goes, attempts, limits, epoch_on, by_itself, by_other, message-beside, message-goes, alone-goes, takes-stays}

-- ---- one after the other

others-tidy : (R W H : OfEpochs) (old new : Bus) (by : ℕ) → Beside R W H old new by → OthersTidy R W H new by
others-tidy R W H old new by beside k away =
    subst (λ (a : Option Attempt). IsTidy (R (epoch_of a)) (W (epoch_of a)) (H (epoch_of a)) (new.core k)) (sym (beside.others k away).attempt) (beside.others k away).tidy

beside-then : (R W H : OfEpochs) (a b c : Bus) (by : ℕ) → Beside R W H a b by → Beside R W H b c by → Beside R W H a c by
beside-then R W H a b c by first second = record {
  shape = second.shape ∙ first.shape;
  length = second.length ∙ first.length;
  others = λ k away. stays-then (R (epoch_on a k)) (W (epoch_on a k)) (H (epoch_on a k)) (a.core k) (b.core k) (c.core k) (first.others k away)
      (subst (λ (x : Option Attempt). Stays (R (epoch_of x)) (W (epoch_of x)) (H (epoch_of x)) (b.core k) (c.core k)) (first.others k away).attempt (second.others k away));
}

-- a core changes and nobody is told
quiet-beside : (R W H : OfEpochs) (bus : Bus) (by : ℕ) (state : CoreState) → OthersTidy R W H bus by → Beside R W H bus (with_core by state bus) by
quiet-beside R W H bus by state h = record {
  shape = refl;
  length = refl;
  others = λ k away. by_other (λ c. Stays (R (epoch_on bus k)) (W (epoch_on bus k)) (H (epoch_on bus k)) (bus.core k) c) by k state (bus.core k) away
      (stays-same (R (epoch_on bus k)) (W (epoch_on bus k)) (H (epoch_on bus k)) (bus.core k) (h k away));
}

-- ---- attempts that begin, become straight and end

-- the others stay in order, and the core has this attempt, and no marks
pub record Sets (R W H : OfEpochs) (old new : Bus) (by : ℕ) (attempt : Option Attempt) : Type 0 where
  pub beside : Beside R W H old new by
  pub attempt_is : (new.core by).attempt ≡ attempt
  pub limit : (new.core by).buffer.limit ≡ (old.core by).buffer.limit
  pub tidy : (e : ℕ) → IsTidy (R e) (W e) (H e) (new.core by)

pub attempt-sets : (R W H : OfEpochs) (bus : Bus) (by : ℕ) (attempt : Option Attempt) → AreTidy R W H bus → speculates (bus.core by).attempt ≡ false
    → Sets R W H bus (with_core by (record (bus.core by) { attempt = attempt }) bus) by attempt
attempt-sets R W H bus by attempt h quiet =
    let state : CoreState = record (bus.core by) { attempt = attempt } in
    let clear = (h by).unmarked quiet in record {
      beside = quiet-beside R W H bus by state (λ k away. h k);
      attempt_is = by_itself (λ c. c.attempt ≡ attempt) by state (bus.core by) refl;
      limit = by_itself (λ c. c.buffer.limit ≡ (bus.core by).buffer.limit) by state (bus.core by) refl;
      tidy = λ e. by_itself (λ c. IsTidy (R e) (W e) (H e) c) by state (bus.core by)
          (let t = clear-tidy (R (epoch_on bus by)) (W (epoch_on bus by)) (H (epoch_on bus by)) (bus.core by) (h by) (R e) (W e) (H e) clear in
          record { listed = t.listed; once = t.once; share = t.share; fit = t.fit; unmarked = λ s. clear });
    }

-- one after the other
pub sets-tidy : (R W H : OfEpochs) (old new : Bus) (by : ℕ) (attempt : Option Attempt) → Sets R W H old new by attempt → AreTidy R W H new
sets-tidy R W H old new by attempt sets k = elim (cases_eq k by) [
  | inl same ↦ subst (λ (n : ℕ). IsTidy (R (epoch_on new n)) (W (epoch_on new n)) (H (epoch_on new n)) (new.core n)) (sym same) (sets.tidy (epoch_on new by))
  | inr away ↦ others-tidy R W H old new by sets.beside k away
]

pub sets-then : (R W H : OfEpochs) (a b c : Bus) (by : ℕ) (attempt last : Option Attempt) → Sets R W H a b by attempt → Sets R W H b c by last → Sets R W H a c by last
sets-then R W H a b c by attempt last first second = record {
  beside = beside-then R W H a b c by first.beside second.beside;
  attempt_is = second.attempt_is;
  limit = second.limit ∙ first.limit;
  tidy = second.tidy;
}

-- ---- publish

-- beside it the sender keeps its attempt
record Told (R W H : OfEpochs) (old new : Bus) (by : ℕ) : Type 0 where
  pub beside : Beside R W H old new by
  pub attempt : (new.core by).attempt ≡ (old.core by).attempt
  pub limit : (new.core by).buffer.limit ≡ (old.core by).buffer.limit

attempts-told : (R W H : OfEpochs) (old new : Bus) (by : ℕ) → Told R W H old new by → attempts new ≡ attempts old
attempts-told R W H old new by told = fun_ext (λ k. elim (cases_eq k by) [
  | inl e ↦ ap (attempts new) e ∙ (told.attempt ∙ ap (attempts old) (sym e))
  | inr away ↦ (told.beside.others k away).attempt
])

limits-told : (R W H : OfEpochs) (old new : Bus) (by : ℕ) → Told R W H old new by → limits new ≡ limits old
limits-told R W H old new by told = fun_ext (λ k. elim (cases_eq k by) [
  | inl e ↦ ap (limits new) e ∙ (told.limit ∙ ap (limits old) (sym e))
  | inr away ↦ (told.beside.others k away).limit
])

module _ (R W H : OfEpochs) (core limit : ℕ) where
  line-told : (bus : Bus) (addr : ℕ) → OthersTidy R W H bus core → MayTell R W H (attempts bus) (limits bus) core Publish addr limit → Told R W H bus (after_publish_line bus core addr) core
  line-told bus addr h may =
      let message : Message = message_of bus Publish core addr in
      let next : Next = publish_next bus core addr in
      let mid : Bus = after_message bus message None next in
      let first = message-beside R W H bus message h limit may None next in
      let taken : CoreState = changed_core addr next message.line (without_line addr None (bus.core core)) in
      record {
        beside = beside-then R W H bus mid (after_publish_line bus core addr) core first (quiet-beside R W H mid core _ (others-tidy R W H bus mid core first));
        attempt = by_itself (λ c. c.attempt ≡ (bus.core core).attempt) core _ (mid.core core) (by_itself (λ c. c.attempt ≡ (bus.core core).attempt) core taken (heard_core bus message core) refl);
        limit = by_itself (λ c. c.buffer.limit ≡ (bus.core core).buffer.limit) core _ (mid.core core)
            (by_itself (λ c. c.buffer.limit ≡ (bus.core core).buffer.limit) core taken (heard_core bus message core) (entry-limit next.enters addr (bus.core core).buffer));
      }

  lines-told : (lines : List ℕ) (bus : Bus) → OthersTidy R W H bus core
      → ((addr : ℕ) → holds lines addr ≡ true → MayTell R W H (attempts bus) (limits bus) core Publish addr limit) → Told R W H bus (after_publish_lines bus core lines) core
  unfolding after_publish_lines
  lines-told [] bus h may = record {
    beside = record { shape = refl; length = refl; others = λ k away. stays-same (R (epoch_on bus k)) (W (epoch_on bus k)) (H (epoch_on bus k)) (bus.core k) (h k away) };
    attempt = refl;
    limit = refl;
  }
  lines-told (addr ∷ lines) bus h may =
      let mid : Bus = after_publish_line bus core addr in
      let first = line-told bus addr h (may addr (or_left (addr == addr) (holds lines addr) (itself addr))) in
      let rest = lines-told lines mid (others-tidy R W H bus mid core first.beside)
      (λ a there. subst (λ (x : ℕ → Option Attempt). MayTell R W H x (limits mid) core Publish a limit) (sym (attempts-told R W H bus mid core first))
      (subst (λ (x : ℕ → ℕ). MayTell R W H (attempts bus) x core Publish a limit) (sym (limits-told R W H bus mid core first)) (may a (or_right (addr == a) (holds lines a) there)))) in
      record {
        beside = beside-then R W H bus mid (after_publish_lines mid core lines) core first.beside rest.beside;
        attempt = rest.attempt ∙ first.attempt;
        limit = rest.limit ∙ first.limit;
      }

settled-fit : (reads writes : Type 0) (s : LineState) (marks : Marks) → IsFit reads writes (settlement s marks true).state (settlement s marks true).marks
settled-fit reads writes s marks =
    let row = settlement-settles s marks true in record {
      right = record {
        not_loaded = λ e. ap (λ (m : Marks). m.loaded) row.clears_marks;
        not_modified = λ e. ap (λ (m : Marks). m.bytes) row.clears_marks;
        marked = λ e. absurd (both_ways (is_speculative (settlement s marks true).state) row.unmarked e);
      };
      read = λ e. let out = sym (ap (λ (m : Marks). m.loaded) row.clears_marks) ∙ e in absurd cc;
      written = λ e. let out = sym (ap (λ (m : Marks). is_written m) row.clears_marks) ∙ e in absurd cc;
    }

settled-tidy : (R W H : ℕ → Type 0) (core : CoreState) → IsTidy R W H (settled_core core)
settled-tidy R W H core = record {
  listed = λ a. sym (made-required (settles a).state (settles a).marks (core.copy a).cell
      ∙ unrequired (settles a).state (settles a).marks (settlement-settles (core.copy a).state (core.copy a).marks true).unmarked);
  once = tt;
  share = λ a is. absurd cc;
  fit = λ a. made-fit (R a) (W a) (settles a).state (settles a).marks (core.copy a).cell (settled-fit (R a) (W a) (core.copy a).state (core.copy a).marks);
  unmarked = λ s a. ap is_speculative (made-state (settles a).state (settles a).marks (core.copy a).cell) ∙ (settlement-settles (core.copy a).state (core.copy a).marks true).unmarked;
}
  where
    settles : ℕ → Next
    settles a = settlement (core.copy a).state (core.copy a).marks true

pub publish-sets : (R W H : OfEpochs) (bus : Bus) (core limit : ℕ) → AreTidy R W H bus
    → ((addr : ℕ) → holds (bus.core core).buffer.lines addr ≡ true → MayTell R W H (attempts bus) (limits bus) core Publish addr limit)
    → Sets R W H bus (after_publish bus core) core (straight_attempt (bus.core core).attempt)
publish-sets R W H bus core limit h may =
    let mid : Bus = after_publish_lines bus core (bus.core core).buffer.lines in
    let told = lines-told R W H core limit (bus.core core).buffer.lines bus (λ k away. h k) may in
    let state : CoreState = settled_core (mid.core core) in record {
      beside = beside-then R W H bus mid (after_settling mid core) core told.beside (quiet-beside R W H mid core state (others-tidy R W H bus mid core told.beside));
      attempt_is = by_itself (λ c. c.attempt ≡ straight_attempt (bus.core core).attempt) core state (mid.core core) (ap straight_attempt told.attempt);
      limit = by_itself (λ c. c.buffer.limit ≡ (bus.core core).buffer.limit) core state (mid.core core) told.limit;
      tidy = λ e. by_itself (λ c. IsTidy (R e) (W e) (H e) c) core state (mid.core core) (settled-tidy (R e) (W e) (H e) (mid.core core));
    }

-- ---- straight accesses

straight-fit : (reads writes : Type 0) (s : LineState) → is_speculative s ≡ false → IsFit reads writes (unmarked_next s).state (unmarked_next s).marks
straight-fit reads writes s e = record {
  right = record { not_loaded = λ f. none; not_modified = λ f. no_bytes; marked = λ f. absurd (both_ways (is_speculative s) e f) };
  read = λ f. absurd (both_ways (unmarked_next s).marks.loaded none f);
  written = λ f. let out = sym (ap (λ n. not (n == 0)) no_bytes) ∙ f in absurd cc;
}
  where
    same : (b : Bool) → cond b no_marks no_marks ≡ no_marks
    same true = refl
    same false = refl

    none : (unmarked_next s).marks.loaded ≡ false
    none = ap (λ (m : Marks). m.loaded) (same (is_speculative s))

    no_bytes : (unmarked_next s).marks.bytes ≡ 0
    no_bytes = ap (λ (m : Marks). m.bytes) (same (is_speculative s))

module _ (R W H : OfEpochs) (bus : Bus) (h : AreTidy R W H bus) (core addr limit : ℕ) (room : Option Room) (quiet : speculates (bus.core core).attempt ≡ false)
    (is_room : IsRoom (bus.core core) room) where
  abbrev copy : LineCopy
  copy = (bus.core core).copy addr

  clear : is_speculative copy.state ≡ false
  clear = (h core).unmarked quiet addr

  no_mask : (x : ℕ) → has copy.marks.bytes x ≡ true → ⊥
  no_mask x had = both_ways (is_speculative copy.state) clear (mask-marked copy.state copy.marks x ((h core).fit addr).right had)

  change : (s : LineState) → is_speculative s ≡ false
      → IsChange (R (epoch_on bus core) addr) (W (epoch_on bus core) addr) (H (epoch_on bus core) addr) (bus.core core).attempt copy (unmarked_next s)
  change s e = record {
    enters = sym (ap (λ b. b && not (requires_ownership copy.state copy.marks)) (unrequired s (unmarked_next s).marks e));
    stays_required = λ is. absurd (both_ways (requires_ownership copy.state copy.marks) (unrequired copy.state copy.marks clear) is);
    fit = straight-fit (R (epoch_on bus core) addr) (W (epoch_on bus core) addr) s e;
    entered = λ is. absurd cc;
    unmarked = λ q. e;
  }

  takes : (message : Message) → message.sender ≡ core → message.addr ≡ addr → (r : Option Room) → IsRoom (bus.core core) r → leaves r addr ≡ false
      → (s : LineState) → is_speculative s ≡ false
      → Stays (R (epoch_on bus core)) (W (epoch_on bus core)) (H (epoch_on bus core)) (bus.core core) (changed_core addr (unmarked_next s) message.line (without_line addr r (bus.core core)))
  takes message by here r is apart s e =
      takes-stays (R (epoch_on bus core)) (W (epoch_on bus core)) (H (epoch_on bus core)) (bus.core core) (h core) addr (unmarked_next s) (change s e)
      (λ x had. absurd (no_mask x had)) r message.line is apart

  pub straight_load-goes : MayTell R W H (attempts bus) (limits bus) core Load addr limit → Goes R W H bus (after_straight_load bus core addr room)
  straight_load-goes may = pick (holds_line bus core addr) refl
    where
      message : Message
      message = message_of bus Load core addr

      state_by : (b : Bool) → is_speculative (cond b E S) ≡ false
      state_by true = refl
      state_by false = refl

      pick : (b : Bool) → holds_line bus core addr ≡ b
          → Goes R W H bus (cond b bus (after_message bus (message_of bus Load core addr) room (unmarked_next (cond (is_alone bus (message_of bus Load core addr)) E S))))
      pick true e = record { shape = refl; length = refl; core = λ k. stays-same (R (epoch_on bus k)) (W (epoch_on bus k)) (H (epoch_on bus k)) (bus.core k) (h k) }
      pick false e = message-goes R W H bus (message_of bus Load core addr) (λ k away. h k) limit may room (unmarked_next (cond (is_alone bus (message_of bus Load core addr)) E S))
          (takes (message_of bus Load core addr) refl refl room is_room (not_leaving (bus.core core) room addr is_room e)
          (cond (is_alone bus (message_of bus Load core addr)) E S) (state_by (is_alone bus (message_of bus Load core addr))))

  module _ (offset width value : ℕ) (may : MayTell R W H (attempts bus) (limits bus) core Publish addr limit) where
    abbrev told : Message
    told = straight_store_message bus core addr offset width value

    abbrev stored : LineCopy
    stored = changed_copy (copy_with_number offset width value (own bus core addr)) (unmarked_next M)

    abbrev becomes : LineState
    becomes = cond (is_alone bus (straight_store_message bus core addr offset width value)) M S

    becomes_by : (b : Bool) → is_speculative (cond b M S) ≡ false
    becomes_by true = refl
    becomes_by false = refl

    sends : (r : Option Room) → IsRoom (bus.core core) r → leaves r addr ≡ false → Goes R W H bus (after_message bus told r (unmarked_next becomes))
    sends r is apart = message-goes R W H bus told (λ k away. h k) limit may r (unmarked_next becomes)
        (takes told refl refl r is apart becomes (becomes_by (is_alone bus told)))

    by_room : (b : Bool) → holds_line bus core addr ≡ b → Goes R W H bus (after_message bus told (cond b None room) (unmarked_next becomes))
    by_room true e = sends None (none-room (bus.core core)) refl
    by_room false e = sends room is_room (not_leaving (bus.core core) room addr is_room e)

    quietly : Goes R W H bus (with_core core (with_copy addr stored (bus.core core)) bus)
    quietly = alone-goes R W H bus (with_core core (with_copy addr stored (bus.core core)) bus) core (with_copy addr stored (bus.core core)) h refl refl refl (record {
      tidy = with_copy-tidy (R (epoch_on bus core)) (W (epoch_on bus core)) (H (epoch_on bus core)) (bus.core core) (h core) addr stored
          (straight-fit (R (epoch_on bus core) addr) (W (epoch_on bus core) addr) M refl) (sym (unrequired copy.state copy.marks clear)) (λ q. refl);
      masks = with_copy-masks (bus.core core) addr stored (λ x had. absurd (no_mask x had));
      attempt = refl;
      limit = refl;
    })

    pub straight_store-goes : Goes R W H bus (after_straight_store bus core addr offset width value room)
    straight_store-goes = pick (stores_alone copy.state)
      where
        pick : (b : Bool) → Goes R W H bus (cond b (with_core core (with_copy addr stored (bus.core core)) bus) (after_message bus told (room_for bus core addr room) (unmarked_next becomes)))
        pick true = quietly
        pick false = by_room (holds_line bus core addr) refl
