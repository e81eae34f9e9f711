-- A publish does what the store's rule says: line by line, and then the other lines settle.
use Rattle.std.proofs.Common.{◌≡◌, ◌≢◌, ℕ, ◌%◌, ◌<◌, ◌==◌, ◌||◌, inl, inr, nat_lt, Bool, true, false, List, [], ◌∷◌, Option, Some, None, refl, sym, ap, subst, ◌∙◌, arith}
use Rattle.std.proofs.lemmas.Bool.{or_right, and_parts, both_ways}
use Rattle.std.proofs.lemmas.Bool.Decides.{nat_tests}
use Rattle.memory_bytes.proofs.SmallFacts.{apart_by_test}
use Rattle.spec_states.specs.Copies.{LineCopy}
use Rattle.spec_states.specs.States.{is_valid, is_speculative}
use Rattle.orb.specs.Lines.{holds, is_full}
use Rattle.violations.specs.declared.attempt.Attempt.{Attempt}
use Rattle.violations.specs.View.{Shape, attempt_of, epoch_of, MayPublish}
use Rattle.violations.specs.Rule.{HurtsLater, Guards, Publishes}
use Rattle.bus_states.specs.declared.notice.Notice.TheVariants.{Publish}
use Rattle.bus_states.specs.Bus.{CoreState, Bus, committed, sees, is_later, line_of, offset_of}
use Rattle.bus_states.specs.Coherent.{IsCoherent, speculates}
use Rattle.bus_states.specs.Messages.{Message, message_of, reply, order, overflows, violates}
use Rattle.bus_states.specs.Speculative.{own}
use Rattle.bus_states.specs.Straight.{after_publish_line, after_publish_lines, straight_attempt, settled_core, after_settling, after_publish, lines_violate, publish_violates}
use Rattle.bus_states.specs.Views.{view_of, AreOrdered}
use Rattle.bus_states.proofs.Addresses.{line-aligned}
use Rattle.bus_states.proofs.Coherence.{committed-with}
use Rattle.bus_states.proofs.Copies.{itself}
use Rattle.bus_states.proofs.Guarding.{line-viewed, guarded-line, modified-marked, modified-required, required-modified, modified-owns, own-modified, loaded-shared}
use Rattle.bus_states.proofs.Hurting.{hurts-none, hurts-then, hurts-then_none, hurts-same, cause, reply-violates, heard-shows, message-hurts, quiet-hurts}
use Rattle.bus_states.proofs.Ordered.{first-publish, runs-there}
use Rattle.bus_states.proofs.Publishing.{IsListed, required, listed-held, listed-aligned, AreListed, publish-sends, publish_line-sent, publish_line-core, publish_line-coherent, line_published, first-listed, rest-listed, ArePublished, publish_lines-published, settle-quietly, publish-with}
use Rattle.bus_states.proofs.Replies.{reply-enters}
use Rattle.bus_states.proofs.Showing.{committed_at, unowned-sees}
use Rattle.bus_states.proofs.StraightAccesses.{IsFirst}
use Rattle.bus_states.proofs.Violating.{publish-tells}

-- ---- one line

publish_line-hurts : (bus : Bus) (core addr : ℕ) → IsCoherent bus → IsListed bus core addr → IsFirst bus core
    → HurtsLater (view_of bus) (view_of (after_publish_line bus core addr)) core (violates bus (message_of bus Publish core addr))
publish_line-hurts bus core addr h t first =
    subst (λ (new : Bus). HurtsLater (view_of bus) (view_of new) core (violates bus (message_of bus Publish core addr))) (sym (publish_line-sent bus core addr))
    (message-hurts bus (message_of bus Publish core addr) None (line_published bus core addr) _ h (publish-sends bus core addr h t) (λ _. first))

publish_line-attempt : (bus : Bus) (core addr : ℕ) → ((after_publish_line bus core addr).core core).attempt ≡ (bus.core core).attempt
publish_line-attempt bus core addr = ap (λ (state : CoreState). state.attempt) (publish_line-core bus core addr)

some_speculates : (old new : Option Attempt) → new ≡ old → speculates new ≡ true → speculates old ≡ true
some_speculates old new same speculative = ap speculates (sym same) ∙ speculative

none_speculates : (o : Option Attempt) → o ≡ None → speculates o ≡ true → ⊥
none_speculates o none speculative = cc

-- the core's epoch stays the first
first-still : (old new : Bus) (core : ℕ) (hurt : ℕ → Bool) → IsFirst old core → HurtsLater (view_of old) (view_of new) core hurt
    → (new.core core).attempt ≡ (old.core core).attempt → IsFirst new core
first-still old new core hurt first others stays =
    record { later = λ k away speculative. by_hurt k away speculative (hurt k) refl }
  where
    by_hurt : (k : ℕ) → k ≢ core → speculates (new.core k).attempt ≡ true → (b : Bool) → hurt k ≡ b → is_later new core k ≡ true
    by_hurt k away speculative true e = absurd (none_speculates (new.core k).attempt (others.hurts k e).none speculative)
    by_hurt k away speculative false e =
        let same : (new.core k).attempt ≡ (old.core k).attempt = (others.spares k away e).attempt in
        ap (λ (o : Option Attempt). nat_lt (epoch_of o) (epoch_of (new.core k).attempt)) stays
        ∙ ap (λ (o : Option Attempt). nat_lt (epoch_of (old.core core).attempt) (epoch_of o)) same
        ∙ first.later k away (some_speculates (old.core k).attempt (new.core k).attempt same speculative)

-- ---- all lines of the buffer

publish_lines-attempt : (lines : List ℕ) (bus : Bus) (core : ℕ) → ((after_publish_lines bus core lines).core core).attempt ≡ (bus.core core).attempt
unfolding after_publish_lines
publish_lines-attempt [] bus core = refl
publish_lines-attempt (addr ∷ lines) bus core =
    publish_lines-attempt lines (after_publish_line bus core addr) core ∙ publish_line-attempt bus core addr

publish_lines-hurts : (lines : List ℕ) (bus : Bus) (core : ℕ) → IsCoherent bus → AreListed bus core lines → IsFirst bus core
    → HurtsLater (view_of bus) (view_of (after_publish_lines bus core lines)) core (lines_violate bus core lines)
unfolding after_publish_lines lines_violate
publish_lines-hurts [] bus core h t first = hurts-none (view_of bus) core (unowned-sees bus)
publish_lines-hurts (addr ∷ lines) bus core h t first =
    let mid : Bus = after_publish_line bus core addr in
    let listed : IsListed bus core addr = first-listed bus core addr lines t in
    let others = publish_line-hurts bus core addr h listed first in
    let stays = publish_line-attempt bus core addr in
    hurts-then (view_of bus) (view_of mid) (view_of (after_publish_lines mid core lines)) core
    (violates bus (message_of bus Publish core addr)) (lines_violate mid core lines) stays others
    (publish_lines-hurts lines mid core (publish_line-coherent bus core addr h listed) (rest-listed bus core addr lines h t)
    (first-still bus mid core (violates bus (message_of bus Publish core addr)) first others stays))

-- ---- whom they violate

-- the publish of one line: those alone that have loaded it, since beside a core that holds the line no other copy has to enter a
-- buffer
publish_line-meets : (bus : Bus) (core addr k : ℕ) → IsCoherent bus → IsListed bus core addr
    → violates bus (message_of bus Publish core addr) k ≡ true → ((bus.core k).copy addr).marks.loaded ≡ true
publish_line-meets bus core addr k h t hit =
    let copy : LineCopy = (bus.core k).copy addr in
    let message : Message = message_of bus Publish core addr in
    let why = cause (k == core) (reply bus message k).violated (overflows bus message k) (is_later bus core k) hit in
    let away : k ≢ core = λ same. both_ways (k == core) why.0 (rw same (itself core)) in
    elim why.1 [
      | inl violated ↦ (and_parts (is_speculative copy.state) copy.marks.loaded (reply-violates Publish copy.state copy.marks (is_later bus core k) violated).0).1
      | inr over ↦
          absurd (both_ways (is_valid (own bus core addr).state) ((h.lines addr (listed-aligned bus core addr h t)).exclusive k core away
          (reply-enters Publish copy.state copy.marks (order (is_later bus core k)) (and_parts (reply bus message k).enters (is_full (bus.core k).buffer) over.0).0)) (listed-held bus core addr h t))
    ]

-- a core that it spares has loaded the same lines
publish_line-loaded : (bus : Bus) (core addr k a : ℕ) → IsCoherent bus → IsListed bus core addr → k ≢ core
    → violates bus (message_of bus Publish core addr) k ≡ false → a % bus.line_length ≡ 0
    → (((after_publish_line bus core addr).core k).copy a).marks.loaded ≡ ((bus.core k).copy a).marks.loaded
publish_line-loaded bus core addr k a h t away spares aligned =
    ap (λ (new : Bus). ((new.core k).copy a).marks.loaded) (publish_line-sent bus core addr)
    ∙ ((heard-shows bus (message_of bus Publish core addr) None (line_published bus core addr) k h (listed-aligned bus core addr h t) away spares).copies a aligned).loaded

-- one of these lines is one that the core has loaded
record HasLoadedOne (bus : Bus) (k : ℕ) (lines : List ℕ) : Type 0 where
  pub line : ℕ
  pub listed : holds lines line ≡ true
  pub loaded : ((bus.core k).copy line).marks.loaded ≡ true

listed-line : (bus : Bus) (core line : ℕ) (lines : List ℕ) → AreListed bus core lines → holds lines line ≡ true → IsListed bus core line
listed-line bus core line lines t listed =
    record { in_cores = t.in_cores; listed = ap (λ (lines : List ℕ). holds lines line) t.are ∙ listed }

publish_lines-meet : (lines : List ℕ) (bus : Bus) (core k : ℕ) → IsCoherent bus → AreListed bus core lines → k ≢ core
    → lines_violate bus core lines k ≡ true → HasLoadedOne bus k lines
unfolding lines_violate
publish_lines-meet [] bus core k h t away hit = absurd (let x : ⊥ = cc in x)
publish_lines-meet (addr ∷ lines) bus core k h t away hit =
    let first : IsListed bus core addr = first-listed bus core addr lines t in
    elim (violates bus (message_of bus Publish core addr) k) as (λ b. violates bus (message_of bus Publish core addr) k ≡ b → (b || lines_violate (after_publish_line bus core addr) core lines k) ≡ true → HasLoadedOne bus k (addr ∷ lines)) [
      | true ↦ λ e _. record { line = addr; listed = rw (itself addr) refl; loaded = publish_line-meets bus core addr k h first e }
      | false ↦ λ e rest.
          let met = publish_lines-meet lines (after_publish_line bus core addr) core k (publish_line-coherent bus core addr h first) (rest-listed bus core addr lines h t) away rest in
          let listed : holds (addr ∷ lines) met.line ≡ true = or_right (addr == met.line) (holds lines met.line) met.listed in
          let aligned = listed-aligned bus core met.line h (listed-line bus core met.line (addr ∷ lines) t listed) in
          record { line = met.line; listed = listed; loaded = sym (publish_line-loaded bus core addr k met.line h first away e aligned) ∙ met.loaded }
    ] refl hit

publish_lines-tell : (lines : List ℕ) (bus : Bus) (core k line : ℕ) → IsCoherent bus → AreListed bus core lines → k ≢ core
    → holds lines line ≡ true → ((bus.core k).copy line).marks.loaded ≡ true → lines_violate bus core lines k ≡ true
unfolding lines_violate
publish_lines-tell [] bus core k line h t away listed loaded = absurd (let x : ⊥ = cc in x)
publish_lines-tell (addr ∷ lines) bus core k line h t away listed loaded =
    let first : IsListed bus core addr = first-listed bus core addr lines t in
    let aligned = listed-aligned bus core line h (listed-line bus core line (addr ∷ lines) t listed) in
    elim (violates bus (message_of bus Publish core addr) k) as (λ b. violates bus (message_of bus Publish core addr) k ≡ b → (b || lines_violate (after_publish_line bus core addr) core lines k) ≡ true) [
      | true ↦ λ e. refl
      | false ↦ λ e.
          publish_lines-tell lines (after_publish_line bus core addr) core k line (publish_line-coherent bus core addr h first) (rest-listed bus core addr lines h t) away
          (other (addr == line) (holds lines line) listed
          (λ same.
          let here : addr ≡ line = grind (arith, nat_tests) in
          both_ways (violates bus (message_of bus Publish core addr) k) e (publish-tells bus (message_of bus Publish core addr) k h (listed-aligned bus core addr h first) refl away
          (ap (λ (a : ℕ). ((bus.core k).copy a).marks.loaded) here ∙ loaded))))
          (publish_line-loaded bus core addr k line h first away e aligned ∙ loaded)
    ] refl
  where
    other : (b d : Bool) → (b || d) ≡ true → (b ≡ true → ⊥) → d ≡ true
    other true d e never = absurd (never refl)
    other false d e never = e

-- a core that guards a byte of the publisher's own
publish-meets : (bus : Bus) (core k : ℕ) → IsCoherent bus → core < bus.shape.cores → k ≢ core → publish_violates bus core k ≡ true
    → Guards (view_of bus) k ((view_of bus).own core)
publish-meets bus core k h there away hit =
    let lines : List ℕ = (bus.core core).buffer.lines in
    let listed : AreListed bus core lines = record { in_cores = there; are = refl } in
    let met = publish_lines-meet lines bus core k h listed away hit in
    let line : IsListed bus core met.line = listed-line bus core met.line lines listed met.listed in
    let byte = modified-owns bus core met.line h (listed-held bus core met.line h line)
    (required-modified (own bus core met.line).state (own bus core met.line).marks (required bus core met.line h line)) in
    record {
      at = byte.at;
      is_one = byte.owned;
      guarded = guarded-line bus k met.line byte.at (sym (line-viewed bus h byte.at) ∙ byte.in_line) ∙ met.loaded;
    }

publish-guards : (bus : Bus) (core k : ℕ) → IsCoherent bus → core < bus.shape.cores → k ≢ core
    → Guards (view_of bus) k ((view_of bus).own core) → publish_violates bus core k ≡ true
publish-guards bus core k h there away guards =
    let line : ℕ = line_of bus.line_length guards.at in
    let aligned : line % bus.line_length ≡ 0 = line-aligned bus.line_length guards.at h.length_is in
    let mine : LineCopy = own bus core line in
    let some = own-modified bus core line guards.at refl guards.is_one in
    let marked = modified-marked mine (committed bus line) ((h.lines line aligned).up_to_date core) some in
    let shared = loaded-shared bus core k line h aligned (λ same. away (sym same)) guards.guarded in
    publish_lines-tell (bus.core core).buffer.lines bus core k line h (record { in_cores = there; are = refl }) away
    ((h.cores core).listed line ∙ modified-required mine.state mine.marks marked some shared) guards.guarded

-- ---- the whole publish

straight-now : (o : Option Attempt) (epoch : ℕ) → o ≡ Some (attempt_of epoch false) → straight_attempt o ≡ Some (attempt_of (epoch_of o) true)
straight-now o epoch e = rw e refl

pub publish-publishes : (bus : Bus) (core : ℕ) (hurt : ℕ → Bool) → IsCoherent bus → AreOrdered bus → MayPublish (view_of bus) core
    → ((k : ℕ) → hurt k ≡ publish_violates bus core k)
    → Publishes (view_of bus) (view_of (after_publish bus core)) core hurt
publish-publishes bus core hurt h ordered may are =
    record {
      shape = done.shape;
      cached = refl;
      others =
          hurts-same (view_of bus) (view_of new) core hurt (publish_violates bus core) are
          (hurts-then_none (view_of bus) (view_of mid) (view_of new) core (publish_violates bus core) stays
          violated
          (quiet-hurts mid core (settled_core (mid.core core)) mid.memory (sees mid core) done.coherent
          (settle-quietly mid core done.coherent (subst (λ (n : ℕ). core < n) (ap (λ (shape : Shape). shape.cores) (sym done.shape)) there) done.empty)));
      committed =
          λ a. committed_at bus new done.length a
          ∙ committed-with new (sees bus core) (publish-with bus core h there) (line_of bus.line_length a)
          (subst (λ (n : ℕ). line_of bus.line_length a % n ≡ 0) (sym done.length) (line-aligned bus.line_length a h.length_is)) (offset_of bus.line_length a);
      attempt =
          ap (λ (state : CoreState). state.attempt) (settled-at mid core)
          ∙ ap straight_attempt stays ∙ straight-now (bus.core core).attempt may.epoch may.is;
      meets = λ k hit. publish-meets bus core k h there (apart_by_test (publish_violates bus core) core k violated.not_itself (sym (are k) ∙ hit)) (sym (are k) ∙ hit);
      tells = λ k away guards. are k ∙ publish-guards bus core k h there away guards;
    }
  where
    lines : List ℕ
    lines = (bus.core core).buffer.lines

    mid : Bus
    mid = after_publish_lines bus core (bus.core core).buffer.lines

    new : Bus
    new = after_publish bus core

    there : core < bus.shape.cores
    there = runs-there bus core (attempt_of may.epoch false) h may.is

    listed : AreListed bus core (bus.core core).buffer.lines
    listed = record { in_cores = there; are = refl }

    violated : HurtsLater (view_of bus) (view_of (after_publish_lines bus core (bus.core core).buffer.lines)) core (publish_violates bus core)
    violated = publish_lines-hurts lines bus core h listed (first-publish bus core ordered may)

    done : ArePublished bus (after_publish_lines bus core (bus.core core).buffer.lines) core
    done = publish_lines-published lines bus core h listed

    stays : ((after_publish_lines bus core (bus.core core).buffer.lines).core core).attempt ≡ (bus.core core).attempt
    stays = publish_lines-attempt lines bus core

    settled-at : (bus : Bus) (core : ℕ) → (after_settling bus core).core core ≡ settled_core (bus.core core)
    settled-at bus core = rw (itself core) refl
