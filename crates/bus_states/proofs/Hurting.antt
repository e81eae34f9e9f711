-- Whom a call violates and whom it spares, as the store's rule asks: what a message does, what a core does that tells nobody,
-- and two such steps after one another.
use Rattle.std.proofs.Common.{◌≡◌, ◌≢◌, ℕ, ◌%◌, ◌<◌, ◌==◌, ◌||◌, ◌&&◌, ◌⊎◌, inl, inr, not, nat_lt, Bool, true, false, cond, Option, Some, None, refl, sym, ap, subst, ◌∙◌, arith, ne_eqb}
use Rattle.std.proofs.lemmas.Bool.{and_parts, both_ways}
use Rattle.std.proofs.lemmas.Bool.Decides.{nat_tests}
use Rattle.memory_bytes.proofs.SmallFacts.{apart_by_test}
use Rattle.rv32_image.proofs.SmallFacts.{none_and_some, or_false}
use Rattle.spec_states.specs.declared.line.LineState.{LineState}
use Rattle.spec_states.specs.declared.line.Marks.{Marks}
use Rattle.spec_states.specs.declared.next.Next.{Next}
use Rattle.spec_states.specs.Copies.{LineCopy, IsUpToDate}
use Rattle.spec_states.specs.Mask.{has}
use Rattle.spec_states.specs.Rows.{was_loaded, GivesWay}
use Rattle.spec_states.specs.States.{is_valid, is_speculative}
use Rattle.spec_states.proofs.RowLaws.{other_load-violates, other_store-violates, other_publish-violates, speculative-valid}
use Rattle.orb.specs.Lines.{is_full}
use Rattle.violations.specs.declared.attempt.Attempt.{Attempt}
use Rattle.violations.specs.View.{StoreView, epoch_of}
use Rattle.violations.specs.Rule.{IsSpared, IsHurt, HurtsLater}
use Rattle.bus_states.specs.declared.notice.Notice.{Notice}
use Rattle.bus_states.specs.declared.notice.Notice.TheVariants.{Load, Store, Publish}
use Rattle.bus_states.specs.Bus.{CoreState, Bus, committed, is_later}
use Rattle.bus_states.specs.Coherent.{IsCoherent, speculates}
use Rattle.bus_states.specs.Messages.{Room, Message, reply, reply_to, order, bytes_after, overflows, violates, changed_core}
use Rattle.bus_states.specs.Views.{view_of}
use Rattle.bus_states.proofs.Coherence.{committed-with}
use Rattle.bus_states.proofs.Copies.{itself, made}
use Rattle.bus_states.proofs.Heard.{message-gives_way, unviolated}
use Rattle.bus_states.proofs.Quiet
use Rattle.bus_states.proofs.Quiet.{ChangesQuietly, quietly, quiet-with}
use Rattle.bus_states.proofs.Sending
use Rattle.bus_states.proofs.Sending.{Sends, sent, sent-committed}
use Rattle.bus_states.proofs.Showing.{Shows, Shows-same, Shows-reply, ShowsSame, bytes_after-own, spared}
use Rattle.bus_states.proofs.StraightAccesses.{IsFirst, enters-speculates}

-- ---- nobody

-- a view that stays hurts nobody
pub hurts-none : (v : StoreView) (core : ℕ) → ((k a : ℕ) → v.own k a ≡ false → v.sees k a ≡ v.committed a) → HurtsLater v v core (λ k. false)
hurts-none v core rest =
    record {
      not_itself = refl;
      hurts = λ k e. absurd (let x : ⊥ = cc in x);
      spares =
          λ k away e. record {
            attempt = refl;
            own = λ a. refl;
            guarded = λ a. refl;
            sees_own = λ a own. refl;
            sees_rest = rest k;
            stands = λ a guarded. refl;
          };
    }

-- the same cores
pub hurts-same : (u v : StoreView) (core : ℕ) (hurt other : ℕ → Bool) → ((k : ℕ) → hurt k ≡ other k) → HurtsLater u v core other
    → HurtsLater u v core hurt
hurts-same u v core hurt other same h =
    record {
      not_itself = same core ∙ h.not_itself;
      hurts = λ k e. h.hurts k (sym (same k) ∙ e);
      spares = λ k away e. h.spares k away (sym (same k) ∙ e);
    }

-- ---- two steps of a core

pub spared-then : (u v w : StoreView) (k : ℕ) → IsSpared u v k → IsSpared v w k → IsSpared u w k
spared-then u v w k p q =
    record {
      attempt = q.attempt ∙ p.attempt;
      own = λ a. q.own a ∙ p.own a;
      guarded = λ a. q.guarded a ∙ p.guarded a;
      sees_own = λ a own. q.sees_own a (p.own a ∙ own) ∙ p.sees_own a own;
      sees_rest = λ a out. q.sees_rest a (p.own a ∙ out);
      stands = λ a guarded. q.stands a (p.guarded a ∙ guarded) ∙ p.stands a guarded;
    }

pub hurts-then : (u v w : StoreView) (core : ℕ) (first second : ℕ → Bool) → v.attempt core ≡ u.attempt core
    → HurtsLater u v core first → HurtsLater v w core second → HurtsLater u w core (λ k. first k || second k)
hurts-then u v w core first second stays f s =
    record { not_itself = rw (f.not_itself, s.not_itself) refl; hurts = λ k e. hurt k (first k) refl e; spares = λ k away e. spare k away (first k) (second k) refl refl e }
  where
    by_first : (k : ℕ) → first k ≡ true → (b : Bool) → second k ≡ b → IsHurt u w core k
    by_first k e true e2 = absurd (none_and_some (v.attempt k) (s.hurts k e2).attempt (f.hurts k e).none (s.hurts k e2).had)
    by_first k e false e2 =
        let p = f.hurts k e in
        record {
          attempt = p.attempt;
          had = p.had;
          later = p.later;
          none = (s.spares k (apart_by_test first core k f.not_itself e) e2).attempt ∙ p.none;
        }

    hurt : (k : ℕ) (b : Bool) → first k ≡ b → (b || second k) ≡ true → IsHurt u w core k
    hurt k true e hit = by_first k e (second k) refl
    hurt k false e hit =
        let p = s.hurts k hit in
        record {
          attempt = p.attempt;
          had = sym (f.spares k (apart_by_test second core k s.not_itself hit) e).attempt ∙ p.had;
          later = subst (λ (o : Option Attempt). epoch_of o < p.attempt.epoch) stays p.later;
          none = p.none;
        }

    spare : (k : ℕ) → k ≢ core → (b d : Bool) → first k ≡ b → second k ≡ d → (b || d) ≡ false → IsSpared u w k
    spare k away true d e e2 none = absurd (let x : ⊥ = cc in x)
    spare k away false true e e2 none = absurd (let x : ⊥ = cc in x)
    spare k away false false e e2 none = spared-then u v w k (f.spares k away e) (s.spares k away e2)

-- a second step that violates nobody
pub hurts-then_none : (u v w : StoreView) (core : ℕ) (hurt : ℕ → Bool) → v.attempt core ≡ u.attempt core
    → HurtsLater u v core hurt → HurtsLater v w core (λ k. false) → HurtsLater u w core hurt
hurts-then_none u v w core hurt stays f s =
    hurts-same u w core hurt (λ k. hurt k || false) (λ k. sym (or_false (hurt k))) (hurts-then u v w core hurt (λ k. false) stays f s)

-- ---- a message

-- a copy that a message violates was speculatively loaded, and its owner is later or hears a publish
pub reply-violates : (notice : Notice) (s : LineState) (marks : Marks) (later : Bool)
    → (reply_to notice s marks (order later)).violated ≡ true → (was_loaded s marks ≡ true) × ((notice ≡ Publish) ⊎ (later ≡ true))
reply-violates Load s marks later e = absurd (both_ways _ (other_load-violates s marks) e)
reply-violates Store s marks true e = (sym (other_store-violates s marks (order true)) ∙ e, inr refl)
reply-violates Store s marks false e = absurd (both_ways _ (other_store-violates s marks (order false)) e)
reply-violates Publish s marks later e = (sym (other_publish-violates s marks) ∙ e, inl refl)

-- why a core is violated
pub cause : (same hit over later : Bool) → (not same && (hit || (over && later))) ≡ true
    → (same ≡ false) × ((hit ≡ true) ⊎ ((over ≡ true) × (later ≡ true)))
cause true hit over later e = absurd (let x : ⊥ = cc in x)
cause false true over later e = (refl, inl refl)
cause false false true true e = (refl, inr (refl, refl))
cause false false true false e = absurd (let x : ⊥ = cc in x)
cause false false false later e = absurd (let x : ⊥ = cc in x)

-- a core with a marked copy runs a speculative attempt
pub marked-speculates : (bus : Bus) (k a : ℕ) → IsCoherent bus → is_speculative ((bus.core k).copy a).state ≡ true
    → speculates (bus.core k).attempt ≡ true
marked-speculates bus k a h marked =
    elim (speculates (bus.core k).attempt) as (λ b. speculates (bus.core k).attempt ≡ b → b ≡ true) [
      | true ↦ λ e. refl
      | false ↦ λ e. absurd (both_ways (is_speculative ((bus.core k).copy a).state) ((h.cores k).unmarked a e) marked)
    ] refl

-- the sender is not violated
violated-other : (bus : Bus) (message : Message) (k : ℕ) → violates bus message k ≡ true → k ≢ message.sender
violated-other bus message k e same =
    let c = cause (k == message.sender) (reply bus message k).violated (overflows bus message k) (is_later bus message.sender k) e in
    both_ways (k == message.sender) c.0 (rw same (itself message.sender))

-- a violated core runs a speculative attempt of a later epoch. Where the message is a publish, its sender's epoch is the first
pub violates-later : (bus : Bus) (message : Message) (k : ℕ) → IsCoherent bus → message.addr % bus.line_length ≡ 0
    → (message.notice ≡ Publish → IsFirst bus message.sender) → violates bus message k ≡ true
    → (speculates (bus.core k).attempt ≡ true) × (is_later bus message.sender k ≡ true)
violates-later bus message k h aligned first e =
    let c = cause (k == message.sender) (reply bus message k).violated (overflows bus message k) (is_later bus message.sender k) e in
    by_cause (violated-other bus message k e) c.1
  where
    by_notice : k ≢ message.sender → speculates (bus.core k).attempt ≡ true
        → (message.notice ≡ Publish) ⊎ (is_later bus message.sender k ≡ true) → is_later bus message.sender k ≡ true
    by_notice away runs (inl publish) = (first publish).later k away runs
    by_notice away runs (inr later) = later

    by_cause : k ≢ message.sender
        → ((reply bus message k).violated ≡ true) ⊎ ((overflows bus message k ≡ true) × (is_later bus message.sender k ≡ true))
        → (speculates (bus.core k).attempt ≡ true) × (is_later bus message.sender k ≡ true)
    by_cause away (inl hit) =
        let copy : LineCopy = (bus.core k).copy message.addr in
        let why = reply-violates message.notice copy.state copy.marks (is_later bus message.sender k) hit in
        let runs : speculates (bus.core k).attempt ≡ true = marked-speculates bus k message.addr h (and_parts (is_speculative copy.state) copy.marks.loaded why.0).0 in
        (runs, by_notice away runs why.1)
    by_cause away (inr over) =
        (enters-speculates bus message k h aligned (and_parts (reply bus message k).enters (is_full (bus.core k).buffer) over.0).0, over.1)

-- the attempt that a core runs
pub running : (o : Option Attempt) → speculates o ≡ true → (x : Attempt) × (o ≡ Some x)
running None e = absurd (let x : ⊥ = cc in x)
running (Some x) e = (x, refl)

below : (m n p : ℕ) → nat_lt m n ≡ true → n ≡ p → m < p
below m n p e f = grind (arith, nat_tests)

-- a copy that is marked as loaded is valid, and was speculatively loaded
pub loaded-marked : (copy : LineCopy) (c : ℕ → ℕ) → IsUpToDate copy c → copy.marks.loaded ≡ true → is_speculative copy.state ≡ true
loaded-marked copy c h loaded =
    elim (is_speculative copy.state) as (λ b. is_speculative copy.state ≡ b → b ≡ true) [
      | true ↦ λ e. refl
      | false ↦ λ e. absurd (both_ways copy.marks.loaded (h.not_loaded e) loaded)
    ] refl

-- a core whose copy changes and keeps its marks shows what it showed
changed-shows : (core : CoreState) (addr a : ℕ) (next : Next) (cell c : ℕ → ℕ) → IsUpToDate (core.copy addr) c
    → GivesWay (core.copy addr).state (core.copy addr).marks next → next.violated ≡ false
    → ((x : ℕ) → has next.marks.bytes x ≡ true → cell x ≡ (core.copy addr).cell x)
    → Shows (core.copy a) ((changed_core addr next cell core).copy a)
changed-shows core addr a next cell c h row spares same =
    elim (addr == a) as (λ b. (addr == a) ≡ b → Shows (core.copy a) (cond b (made next.state next.marks cell) (core.copy a))) [
      | true ↦ λ e.
          let at : addr ≡ a = grind (arith, nat_tests) in
          subst (λ (a : ℕ). Shows (core.copy a) (made next.state next.marks cell)) at (Shows-reply (core.copy addr) c next cell h row spares same)
      | false ↦ λ e. Shows-same (core.copy a)
    ] refl

-- so does a core that a message spares
pub heard-shows : (bus : Bus) (message : Message) (room : Option Room) (own : CoreState) (k : ℕ) → IsCoherent bus
    → message.addr % bus.line_length ≡ 0 → k ≢ message.sender → violates bus message k ≡ false
    → ShowsSame bus (sent bus message room own) k
heard-shows bus message room own k h aligned away spares =
    let copy : LineCopy = (bus.core k).copy message.addr in
    let next : Next = reply bus message k in
    let cell : ℕ → ℕ = bytes_after message.notice next.marks.bytes copy.cell message.line in
    let at : (sent bus message room own).core k ≡ changed_core message.addr next cell (bus.core k) =
    Sending.at_other bus message room own k away ∙ rw spares refl in
    let unhit : next.violated ≡ false =
    unviolated (k == message.sender) next.violated (overflows bus message k) (is_later bus message.sender k) (ne_eqb k message.sender away) spares in
    record {
      length_is = h.length_is;
      length = refl;
      copies =
          λ a on_line. subst (λ (core : CoreState). Shows ((bus.core k).copy a) (core.copy a)) (sym at)
          (changed-shows (bus.core k) message.addr a next cell (committed bus message.addr) ((h.lines message.addr aligned).up_to_date k)
          (message-gives_way bus message k h aligned) unhit (λ x own. bytes_after-own message.notice next.marks.bytes copy.cell message.line x own));
    }

no_load : Load ≡ Publish → ⊥
no_load e = cc

no_store : Store ≡ Publish → ⊥
no_store e = cc

-- no line that it has loaded changes
heard-stands : (bus : Bus) (message : Message) (room : Option Room) (own : CoreState) (mine : LineCopy) (k : ℕ) → IsCoherent bus
    → Sends bus message room own mine → k ≢ message.sender → violates bus message k ≡ false
    → (a : ℕ) → a % bus.line_length ≡ 0 → ((bus.core k).copy a).marks.loaded ≡ true
    → (x : ℕ) → committed (sent bus message room own) a x ≡ committed bus a x
heard-stands bus message room own mine k h t away spares a on_line loaded x =
    sent-committed bus message room own mine h t a on_line x
    ∙ elim (message.addr == a) as (λ b. (message.addr == a) ≡ b → cond b message.line (committed bus a) x ≡ committed bus a x) [
      | true ↦ λ e.
          let at : message.addr ≡ a = grind (arith, nat_tests) in
          subst (λ (a : ℕ). ((bus.core k).copy a).marks.loaded ≡ true → message.line x ≡ committed bus a x) at (here message.notice refl) loaded
      | false ↦ λ e. refl
    ] refl
  where
    same : message.notice ≢ Publish → message.line x ≡ committed bus message.addr x
    same other = ap (λ (line : ℕ → ℕ). line x) (t.same_line other)

    -- a publish violates the cores that have loaded the line
    hit : message.notice ≡ Publish → ((bus.core k).copy message.addr).marks.loaded ≡ true → ⊥
    hit publish loaded =
        let copy : LineCopy = (bus.core k).copy message.addr in
        let marked : is_speculative copy.state ≡ true = loaded-marked copy (committed bus message.addr) ((h.lines message.addr t.aligned).up_to_date k) loaded in
        let is_hit : (reply bus message k).violated ≡ true =
        ap (λ (notice : Notice). (reply_to notice copy.state copy.marks (order (is_later bus message.sender k))).violated) publish
        ∙ other_publish-violates copy.state copy.marks ∙ rw (marked, loaded) refl in
        both_ways (reply bus message k).violated (unviolated (k == message.sender) (reply bus message k).violated (overflows bus message k) (is_later bus message.sender k) (ne_eqb k message.sender away) spares) is_hit

    here : (notice : Notice) → message.notice ≡ notice → ((bus.core k).copy message.addr).marks.loaded ≡ true
        → message.line x ≡ committed bus message.addr x
    here Load is loaded = same (λ publish. no_load (sym is ∙ publish))
    here Store is loaded = same (λ publish. no_store (sym is ∙ publish))
    here Publish is loaded = absurd (hit is loaded)

-- what a message of a core does to the others. Where it is a publish, the core's epoch is the first
pub message-hurts : (bus : Bus) (message : Message) (room : Option Room) (own : CoreState) (mine : LineCopy) → IsCoherent bus
    → Sends bus message room own mine → (message.notice ≡ Publish → IsFirst bus message.sender)
    → HurtsLater (view_of bus) (view_of (sent bus message room own)) message.sender (violates bus message)
message-hurts bus message room own mine h t first =
    record {
      not_itself = rw (itself message.sender) refl;
      hurts = hurt;
      spares =
          λ k away spares. spared bus (sent bus message room own) k (heard-shows bus message room own k h t.aligned away spares)
          (ap (λ (core : CoreState). core.attempt) (Sending.at_other bus message room own k away) ∙ rw spares refl) (heard-stands bus message room own mine k h t away spares);
    }
  where
    hurt : (k : ℕ) → violates bus message k ≡ true → IsHurt (view_of bus) (view_of (sent bus message room own)) message.sender k
    hurt k e =
        let later = violates-later bus message k h t.aligned first e in
        let runs = running (bus.core k).attempt later.0 in
        let away : k ≢ message.sender = violated-other bus message k e in
        record {
          attempt = runs.0;
          had = runs.1;
          later = below (epoch_of (bus.core message.sender).attempt) (epoch_of (bus.core k).attempt) runs.0.epoch later.1 (ap epoch_of runs.1);
          none = ap (λ (core : CoreState). core.attempt) (Sending.at_other bus message room own k away) ∙ rw e refl;
        }

-- ---- a core that tells nobody

-- each other core keeps what it shows
pub quiet-shows : (bus : Bus) (core : ℕ) (own : CoreState) (memory : ℕ → ℕ) (k : ℕ) → IsCoherent bus → k ≢ core
    → ShowsSame bus (quietly bus core own memory) k
quiet-shows bus core own memory k h away =
    let at : (quietly bus core own memory).core k ≡ bus.core k = Quiet.at_other bus core own memory k away in
    record {
      length_is = h.length_is;
      length = refl;
      copies = λ a aligned. subst (λ (core : CoreState). Shows ((bus.core k).copy a) (core.copy a)) (sym at) (Shows-same ((bus.core k).copy a));
    }

-- a core does nothing to the others
pub quiet-hurts : (bus : Bus) (core : ℕ) (own : CoreState) (memory : ℕ → ℕ) (c : ℕ → ℕ → ℕ) → IsCoherent bus
    → ChangesQuietly bus core own memory c
    → HurtsLater (view_of bus) (view_of (quietly bus core own memory)) core (λ k. false)
quiet-hurts bus core own memory c h t =
    record {
      not_itself = refl;
      hurts = λ k e. absurd (let x : ⊥ = cc in x);
      spares = λ k away e. spared bus (quietly bus core own memory) k (quiet-shows bus core own memory k h away)
          (ap (λ (core : CoreState). core.attempt) (Quiet.at_other bus core own memory k away)) (stands k away);
    }
  where
    stands : (k : ℕ) → k ≢ core → (a : ℕ) → a % bus.line_length ≡ 0 → ((bus.core k).copy a).marks.loaded ≡ true
        → (x : ℕ) → committed (quietly bus core own memory) a x ≡ committed bus a x
    stands k away a aligned loaded x =
        committed-with (quietly bus core own memory) c (quiet-with bus core own memory c h t) a aligned x
        ∙ elim (t.same_line a aligned) [
          | inl e ↦ ap (λ (line : ℕ → ℕ). line x) e
          | inr alone ↦
              let marked : is_speculative ((bus.core k).copy a).state ≡ true = loaded-marked ((bus.core k).copy a) (committed bus a) ((h.lines a aligned).up_to_date k) loaded in
              absurd (both_ways (is_valid ((bus.core k).copy a).state) ((h.lines a aligned).exclusive core k (λ same. away (sym same)) alone) (speculative-valid ((bus.core k).copy a).state marked))
        ]
