-- A publish keeps the bus coherent, and commits what the core saw.
use Rattle.std.proofs.Common.{◌≡◌, ℕ, ◌%◌, ◌<◌, ◌==◌, ◌&&◌, ◌⊎◌, inl, inr, not, Bool, true, false, cond, List, [], ◌∷◌, None, refl, sym, ap, subst, ◌∙◌, arith}
use Rattle.std.proofs.Math.Path.{fun_ext}
use Rattle.std.proofs.lemmas.Bool.{both_ways, eqb-true, not-false}
use Rattle.std.proofs.lemmas.Bool.Decides.{nat_tests}
use Rattle.std.proofs.lemmas.Nat.{pow_pos}
use Rattle.spec_states.specs.declared.next.Next.{Next}
use Rattle.spec_states.specs.declared.line.Marks.{Marks}
use Rattle.spec_states.specs.declared.line.LineState.{LineState}
use Rattle.spec_states.specs.declared.line.LineState.TheVariants.{I, S, E, M, SpS, SpE}
use Rattle.spec_states.specs.Copies.{LineCopy, copy_of, no_copy, IsUpToDate, merged_line}
use Rattle.spec_states.specs.Rows.{requires_ownership}
use Rattle.spec_states.specs.States.{is_valid, is_exclusive, is_modified, is_speculative}
use Rattle.spec_states.specs.Tables.{settlement}
use Rattle.spec_states.proofs.CopyLaws.{settlement-publishes}
use Rattle.spec_states.proofs.RowLaws.{settlement-settles}
use Rattle.cache_lines.specs.Protocol.{published_copy}
use Rattle.cache_lines.proofs.CopyLaws.{unmarked-published, IsUpToDate-published}
use Rattle.orb.specs.Lines.{Buffer, holds, without, IsEachOnce}
use Rattle.orb.proofs.EachOnce.{without-absent}
use Rattle.bus_states.specs.declared.notice.Notice.TheVariants.{Publish}
use Rattle.bus_states.specs.Bus.{CoreState, Bus, committed, sees, is_later}
use Rattle.bus_states.specs.Coherent.{IsCoherent, IsCoherentCore}
use Rattle.bus_states.specs.Messages.{Message, message_of, reply, order, holds_up, is_busy, is_alone, changed_core, with_copy, with_entry, without_line, heard_core}
use Rattle.bus_states.specs.Attempts.{with_core}
use Rattle.bus_states.specs.Speculative.{own}
use Rattle.bus_states.specs.Straight.{publish_next, after_publish_line, after_publish_lines, settled_core, after_settling, after_publish}
use Rattle.bus_states.proofs.Accesses.{none-room}
use Rattle.bus_states.proofs.Coherence.{IsCoherentWith, committed-with, coherent-with, with-same, by_core, none_at_all, sees-past, sees-held, sees-unmodified}
use Rattle.bus_states.proofs.Copies.{itself, made, made-state, made-up_to_date, made-in_place, unrequired, required-valid, exclusive-valid}
use Rattle.bus_states.proofs.Cores.{entry-limit, emptied-buffer, released-coherent}
use Rattle.bus_states.proofs.Quiet.{ChangesQuietly, quiet-with}
use Rattle.bus_states.proofs.Replies.{reply-enters}
use Rattle.bus_states.proofs.Sending.{Sends, sent, sent_lines, sent-with, at_sender}

-- ---- one line

-- a line of the core's buffer
pub record IsListed (bus : Bus) (core addr : ℕ) : Type 0 where
  pub in_cores : core < bus.shape.cores
  pub listed : holds (bus.core core).buffer.lines addr ≡ true

pub required : (bus : Bus) (core addr : ℕ) → IsCoherent bus → IsListed bus core addr
    → requires_ownership (own bus core addr).state (own bus core addr).marks ≡ true
required bus core addr h t = sym ((h.cores core).listed addr) ∙ t.listed

pub listed-held : (bus : Bus) (core addr : ℕ) → IsCoherent bus → IsListed bus core addr → is_valid (own bus core addr).state ≡ true
listed-held bus core addr h t = required-valid (own bus core addr).state (own bus core addr).marks (required bus core addr h t)

pub listed-aligned : (bus : Bus) (core addr : ℕ) → IsCoherent bus → IsListed bus core addr → addr % bus.line_length ≡ 0
listed-aligned bus core addr h t = (h.in_place core addr).aligned (listed-held bus core addr h t)

-- beside a core that holds the line no other copy has to enter a buffer
pub publish-free : (bus : Bus) (core addr : ℕ) → IsCoherent bus → IsListed bus core addr
    → is_busy bus (message_of bus Publish core addr) ≡ false
publish-free bus core addr h t =
    none_at_all bus.shape.cores (holds_up bus (message_of bus Publish core addr))
    (λ k lt. by_core (λ (k : ℕ). holds_up bus (message_of bus Publish core addr) k ≡ false) core k
    (rw (itself core) refl)
    (λ away. quiet (k == core) (reply bus (message_of bus Publish core addr) k).enters _ _
    (silent ((bus.core k).copy addr).state (reply bus (message_of bus Publish core addr) k).enters
    (reply-enters Publish ((bus.core k).copy addr).state ((bus.core k).copy addr).marks (order (is_later bus core k)))
    (λ ex. both_ways (is_valid (own bus core addr).state) ((h.lines addr (listed-aligned bus core addr h t)).exclusive k core away ex) (listed-held bus core addr h t)))))
  where
    silent : (s : LineState) (enters : Bool) → (enters ≡ true → is_exclusive s ≡ true) → (is_exclusive s ≡ true → ⊥) → enters ≡ false
    silent s true up none = absurd (none (up refl))
    silent s false up none = refl

    quiet : (same enters full later : Bool) → enters ≡ false → (not same && ((enters && full) && not later)) ≡ false
    quiet same enters full later e = grind (arith, nat_tests)

-- the core afterwards
abbrev pub line_published : Bus → ℕ → ℕ → CoreState
line_published bus core addr =
    let next : Next = publish_next bus core addr in
    let changed : CoreState = changed_core addr next (sees bus core addr) (without_line addr None (bus.core core)) in
    record changed { buffer = record changed.buffer { lines = without addr changed.buffer.lines } }

-- a sender that changes once more
sent-again : (bus : Bus) (message : Message) (first : CoreState) (change : CoreState → CoreState)
    → with_core message.sender (change ((sent bus message None first).core message.sender)) (sent bus message None first)
    ≡ sent bus message None (change first)
sent-again bus message first change =
    ap (λ (core : ℕ → CoreState). record (sent bus message None first) { core = core })
    (fun_ext (λ k. rw (at_sender bus message None first) (pick (k == message.sender) k)))
  where
    pick : (b : Bool) (k : ℕ) → cond b (change first) (cond b first (heard_core bus message k)) ≡ cond b (change first) (heard_core bus message k)
    pick true k = refl
    pick false k = refl

pub publish_line-sent : (bus : Bus) (core addr : ℕ)
    → after_publish_line bus core addr ≡ sent bus (message_of bus Publish core addr) None (line_published bus core addr)
publish_line-sent bus core addr =
    sent-again bus (message_of bus Publish core addr) (changed_core addr (publish_next bus core addr) (sees bus core addr) (without_line addr None (bus.core core)))
    (λ (state : CoreState). record state { buffer = record state.buffer { lines = without addr state.buffer.lines } })

pub publish-sends : (bus : Bus) (core addr : ℕ) → IsCoherent bus → IsListed bus core addr
    → Sends bus (message_of bus Publish core addr) None (line_published bus core addr)
    (made (publish_next bus core addr).state (publish_next bus core addr).marks (sees bus core addr))
publish-sends bus core addr h t =
    let mine : LineCopy = own bus core addr in
    let next : Next = publish_next bus core addr in
    let alone : Bool = is_alone bus (message_of bus Publish core addr) in
    let row = settlement-settles mine.state mine.marks alone in
    let aligned : addr % bus.line_length ≡ 0 = listed-aligned bus core addr h t in
    let held : is_valid mine.state ≡ true = listed-held bus core addr h t in
    let seen : mine.cell ≡ sees bus core addr = fun_ext (sees-held bus core addr h aligned held) in
    record {
      aligned = aligned;
      inside = h.inside core addr held;
      in_cores = t.in_cores;
      free = publish-free bus core addr h t;
      past = λ x le. sees-past bus core addr x h le;
      same_line = λ n. absurd (n refl);
      victim = none-room (bus.core core);
      copies = λ a. refl;
      same_length = refl;
      same_geometry = refl;
      same_limit = entry-limit next.enters addr (bus.core core).buffer;
      stays =
          subst (λ (enters : Bool). IsCoherentCore (record (with_copy addr (made next.state next.marks (sees bus core addr)) (bus.core core)) {
            buffer = record (with_entry enters addr (bus.core core).buffer) { lines = without addr (with_entry enters addr (bus.core core).buffer).lines };
          })) (sym row.enters_none)
          (released-coherent (bus.core core) addr (made next.state next.marks (sees bus core addr)) (h.cores core)
          (ap is_speculative (made-state next.state next.marks (sees bus core addr)) ∙ row.unmarked));
      up_to_date =
          made-up_to_date next.state next.marks (sees bus core addr) (sees bus core addr)
          (subst (λ (cell : ℕ → ℕ). IsUpToDate (copy_of next.state next.marks cell) (sees bus core addr)) seen
          (settlement-publishes mine.state mine.marks alone mine.cell (committed bus addr) ((h.lines addr aligned).up_to_date core)));
      in_place =
          made-in_place bus.line_length addr next.state next.marks (sees bus core addr) (λ _. aligned)
          (rw row.clears_marks (pow_pos bus.line_length)) (λ x le. sees-past bus core addr x h le);
      exclusive = λ e. row.exclusive (sym (ap is_exclusive (made-state next.state next.marks (sees bus core addr))) ∙ e);
    }

-- the line is committed as the core sees it
pub publish_line-with : (bus : Bus) (core addr : ℕ) → IsCoherent bus → IsListed bus core addr
    → IsCoherentWith (after_publish_line bus core addr) (sent_lines bus (message_of bus Publish core addr))
publish_line-with bus core addr h t =
    subst (λ (new : Bus). IsCoherentWith new (sent_lines bus (message_of bus Publish core addr))) (sym (publish_line-sent bus core addr))
    (sent-with bus (message_of bus Publish core addr) None (line_published bus core addr) _ h (publish-sends bus core addr h t))

pub publish_line-coherent : (bus : Bus) (core addr : ℕ) → IsCoherent bus → IsListed bus core addr
    → IsCoherent (after_publish_line bus core addr)
publish_line-coherent bus core addr h t =
    coherent-with (after_publish_line bus core addr) (sent_lines bus (message_of bus Publish core addr)) (publish_line-with bus core addr h t)

-- ---- what one line leaves of the core

pub publish_line-core : (bus : Bus) (core addr : ℕ) → (after_publish_line bus core addr).core core ≡ line_published bus core addr
publish_line-core bus core addr =
    ap (λ (new : Bus). new.core core) (publish_line-sent bus core addr) ∙ at_sender bus (message_of bus Publish core addr) None (line_published bus core addr)

-- the line leaves the buffer
pub publish_line-buffer : (bus : Bus) (core addr : ℕ)
    → ((after_publish_line bus core addr).core core).buffer ≡ record (bus.core core).buffer { lines = without addr (bus.core core).buffer.lines }
publish_line-buffer bus core addr =
    ap (λ (core : CoreState). core.buffer) (publish_line-core bus core addr)
    ∙ ap (λ (enters : Bool). record (with_entry enters addr (bus.core core).buffer) { lines = without addr (with_entry enters addr (bus.core core).buffer).lines })
    (settlement-settles (own bus core addr).state (own bus core addr).marks (is_alone bus (message_of bus Publish core addr))).enters_none

-- the core sees each line as before
pub publish_line-sees : (bus : Bus) (core addr : ℕ) → IsCoherent bus → IsListed bus core addr → (a : ℕ) → a % bus.line_length ≡ 0 → (x : ℕ)
    → sees (after_publish_line bus core addr) core a x ≡ sees bus core a x
publish_line-sees bus core addr h t a aligned x =
    let new : Bus = after_publish_line bus core addr in
    let same : committed new a x ≡ sent_lines bus (message_of bus Publish core addr) a x =
    committed-with new (sent_lines bus (message_of bus Publish core addr)) (publish_line-with bus core addr h t) a aligned x in
    elim (addr == a) as (λ b. (addr == a) ≡ b → committed new a x ≡ cond b (sees bus core addr) (committed bus a) x → sees new core a x ≡ sees bus core a x) [
      | true ↦ λ e s.
          let at : addr ≡ a = grind (arith, nat_tests) in
          sees-unmodified new core a (subst (λ (copy : LineCopy). copy.marks.bytes ≡ 0) (sym (copy-here a e)) (none-marked _ _ (settlement-settles (own bus core addr).state (own bus core addr).marks (is_alone bus (message_of bus Publish core addr))).clears_marks)) x
          ∙ s ∙ ap (λ (a : ℕ). sees bus core a x) at
      | false ↦ λ e s. rw (copy-there a e) (other ((bus.core core).copy a) s)
    ] refl same
  where
    copy-here : (a : ℕ) → (addr == a) ≡ true → ((after_publish_line bus core addr).core core).copy a ≡ made (publish_next bus core addr).state (publish_next bus core addr).marks (sees bus core addr)
    copy-here a e = ap (λ (core : CoreState). core.copy a) (publish_line-core bus core addr) ∙ rw e refl

    copy-there : (a : ℕ) → (addr == a) ≡ false → ((after_publish_line bus core addr).core core).copy a ≡ (bus.core core).copy a
    copy-there a e = ap (λ (core : CoreState). core.copy a) (publish_line-core bus core addr) ∙ rw e refl

    none-marked : (s : LineState) (marks : Marks) → marks ≡ record { loaded = false; bytes = 0 } → (made s marks (sees bus core addr)).marks.bytes ≡ 0
    none-marked s marks e = pick (is_valid s)
      where
        pick : (b : Bool) → (cond b (copy_of s marks (sees bus core addr)) no_copy).marks.bytes ≡ 0
        pick true = rw e refl
        pick false = refl

    other : (copy : LineCopy) → committed (after_publish_line bus core addr) a x ≡ committed bus a x
        → merged_line copy.marks.bytes copy.cell (committed (after_publish_line bus core addr) a) x ≡ merged_line copy.marks.bytes copy.cell (committed bus a) x
    other copy s = rw s refl

-- ---- all lines of the buffer

-- the core publishes these lines, which are those of its buffer
pub record AreListed (bus : Bus) (core : ℕ) (lines : List ℕ) : Type 0 where
  pub in_cores : core < bus.shape.cores
  pub are : (bus.core core).buffer.lines ≡ lines

pub first-listed : (bus : Bus) (core addr : ℕ) (lines : List ℕ) → AreListed bus core (addr ∷ lines) → IsListed bus core addr
first-listed bus core addr lines t =
    record { in_cores = t.in_cores; listed = rw (t.are, itself addr) refl }

pub rest-listed : (bus : Bus) (core addr : ℕ) (lines : List ℕ) → IsCoherent bus → AreListed bus core (addr ∷ lines)
    → AreListed (after_publish_line bus core addr) core lines
rest-listed bus core addr lines h t =
    let once : IsEachOnce (addr ∷ lines) = subst (λ (xs : List ℕ). IsEachOnce xs) t.are (h.cores core).buffer.each_once in
    record {
      in_cores = t.in_cores;
      are =
          ap (λ (buffer : Buffer). buffer.lines) (publish_line-buffer bus core addr)
          ∙ rw (t.are, itself addr) (without-absent addr lines once.0);
    }

-- what the lines leave: a coherent bus, an empty buffer, and the core sees what it saw
pub record ArePublished (old new : Bus) (core : ℕ) : Type 0 where
  pub coherent : IsCoherent new
  pub shape : new.shape ≡ old.shape
  pub length : new.line_length ≡ old.line_length
  pub empty : (new.core core).buffer.lines ≡ []
  pub sees_is : (a : ℕ) → a % old.line_length ≡ 0 → (x : ℕ) → sees new core a x ≡ sees old core a x

pub publish_lines-published : (lines : List ℕ) (bus : Bus) (core : ℕ) → IsCoherent bus → AreListed bus core lines
    → ArePublished bus (after_publish_lines bus core lines) core
unfolding after_publish_lines
publish_lines-published [] bus core h t =
    record { coherent = h; shape = refl; length = refl; empty = t.are; sees_is = λ a aligned x. refl }
publish_lines-published (addr ∷ lines) bus core h t =
    let first : IsListed bus core addr = first-listed bus core addr lines t in
    let rest = publish_lines-published lines (after_publish_line bus core addr) core (publish_line-coherent bus core addr h first) (rest-listed bus core addr lines h t) in
    record {
      coherent = rest.coherent;
      shape = rest.shape;
      length = rest.length;
      empty = rest.empty;
      sees_is = λ a aligned x. rest.sees_is a aligned x ∙ publish_line-sees bus core addr h first a aligned x;
    }

-- ---- the other lines settle

-- what settling makes of a copy that requires no ownership
record SettlesQuietly (s : LineState) (marks : Marks) (next : Next) : Type 0 where
  pub exclusive : is_exclusive next.state ≡ true → is_exclusive s ≡ true
  pub modified : is_modified next.state ≡ false → is_modified s ≡ false
  pub unwritten : is_modified next.state ≡ false → marks.bytes ≡ 0
  pub owned : (marks.bytes ≡ 0) ⊎ (is_exclusive s ≡ true)

settles-quietly : (s : LineState) (marks : Marks) (m : Bool) → not (marks.bytes == 0) ≡ m → requires_ownership s marks ≡ false
    → (is_speculative s ≡ false → marks.bytes ≡ 0) → SettlesQuietly s marks (settlement s marks true)
settles-quietly I marks m w e f = record { exclusive = λ x. x; modified = λ x. refl; unwritten = λ x. f refl; owned = inl (f refl) }
settles-quietly S marks m w e f = record { exclusive = λ x. x; modified = λ x. refl; unwritten = λ x. f refl; owned = inl (f refl) }
settles-quietly E marks m w e f = record { exclusive = λ x. x; modified = λ x. refl; unwritten = λ x. f refl; owned = inl (f refl) }
settles-quietly M marks m w e f = record { exclusive = λ x. x; modified = λ x. x; unwritten = λ x. f refl; owned = inl (f refl) }
settles-quietly SpS marks true w e f = cc
settles-quietly SpS marks false w e f =
    let none = eqb-true marks.bytes 0 (not-false (marks.bytes == 0) w) in
    rw w (record { exclusive = λ x. x; modified = λ x. refl; unwritten = λ x. none; owned = inl none })
settles-quietly SpE marks true w e f =
    rw w (record { exclusive = λ x. refl; modified = λ x. refl; unwritten = λ x. cc; owned = inr refl })
settles-quietly SpE marks false w e f =
    let none = eqb-true marks.bytes 0 (not-false (marks.bytes == 0) w) in
    rw w (record { exclusive = λ x. refl; modified = λ x. refl; unwritten = λ x. none; owned = inl none })

pub settle-quietly : (bus : Bus) (core : ℕ) → IsCoherent bus → core < bus.shape.cores → (bus.core core).buffer.lines ≡ []
    → ChangesQuietly bus core (settled_core (bus.core core)) bus.memory (sees bus core)
settle-quietly bus core h inside empty =
    record {
      in_cores = inside;
      same_length = refl;
      same_geometry = refl;
      same_limit = refl;
      stays = record {
        listed = λ a. sym (unrequired (published_copy true ((bus.core core).copy a)).state (published_copy true ((bus.core core).copy a)).marks (unmarked-published true ((bus.core core).copy a)));
        buffer = emptied-buffer (bus.core core).buffer (h.cores core).buffer;
        unmarked = λ a s. unmarked-published true ((bus.core core).copy a);
      };
      in_place = λ a.
          let copy : LineCopy = (bus.core core).copy a in
          let row = settlement-settles copy.state copy.marks true in
          made-in_place bus.line_length a (settlement copy.state copy.marks true).state (settlement copy.state copy.marks true).marks copy.cell
          (λ v. (h.in_place core a).aligned (sym row.valid ∙ v)) (rw row.clears_marks (pow_pos bus.line_length)) (h.in_place core a).cells;
      no_revival = λ a v. sym (settlement-settles ((bus.core core).copy a).state ((bus.core core).copy a).marks true).valid ∙ sym (ap is_valid (state-is ((bus.core core).copy a))) ∙ v;
      exclusive = λ a e. exclusive a (sym (ap is_exclusive (state-is ((bus.core core).copy a))) ∙ e);
      up_to_date = λ a aligned. IsUpToDate-published true ((bus.core core).copy a) (committed bus a) ((h.lines a aligned).up_to_date core);
      same_line = λ a aligned. either a (row a aligned).owned;
      in_memory =
          λ a aligned mine others x.
          let m : is_modified (settlement ((bus.core core).copy a).state ((bus.core core).copy a).marks true).state ≡ false = sym (ap is_modified (state-is ((bus.core core).copy a))) ∙ mine in
          (h.lines a aligned).in_memory (λ k. by_core (λ (k : ℕ). is_modified ((bus.core k).copy a).state ≡ false) core k ((row a aligned).modified m) (others k)) x
          ∙ sym (sees-unmodified bus core a ((row a aligned).unwritten m) x);
    }
  where
    state-is : (copy : LineCopy) → (published_copy true copy).state ≡ (settlement copy.state copy.marks true).state
    state-is copy = made-state (settlement copy.state copy.marks true).state (settlement copy.state copy.marks true).marks copy.cell

    row : (a : ℕ) → a % bus.line_length ≡ 0
        → SettlesQuietly ((bus.core core).copy a).state ((bus.core core).copy a).marks (settlement ((bus.core core).copy a).state ((bus.core core).copy a).marks true)
    row a aligned =
        settles-quietly ((bus.core core).copy a).state ((bus.core core).copy a).marks _ refl
        (sym ((h.cores core).listed a) ∙ ap (λ xs. holds xs a) empty)
        ((h.lines a aligned).up_to_date core).not_modified

    exclusive : (a : ℕ) → is_exclusive (settlement ((bus.core core).copy a).state ((bus.core core).copy a).marks true).state ≡ true
        → is_exclusive ((bus.core core).copy a).state ≡ true
    exclusive a e =
        let copy : LineCopy = (bus.core core).copy a in
        let valid : is_valid copy.state ≡ true =
        sym (settlement-settles copy.state copy.marks true).valid ∙ exclusive-valid (settlement copy.state copy.marks true).state e in
        (row a ((h.in_place core a).aligned valid)).exclusive e

    either : (a : ℕ) → (((bus.core core).copy a).marks.bytes ≡ 0) ⊎ (is_exclusive ((bus.core core).copy a).state ≡ true)
        → (sees bus core a ≡ committed bus a) ⊎ (is_exclusive ((bus.core core).copy a).state ≡ true)
    either a (inl e) = inl (fun_ext (sees-unmodified bus core a e))
    either a (inr e) = inr e

pub settle-with : (bus : Bus) (core : ℕ) → IsCoherent bus → core < bus.shape.cores → (bus.core core).buffer.lines ≡ []
    → IsCoherentWith (after_settling bus core) (sees bus core)
settle-with bus core h inside empty =
    quiet-with bus core (settled_core (bus.core core)) bus.memory (sees bus core) h (settle-quietly bus core h inside empty)

-- ---- the whole publish

-- what the core saw is committed
pub publish-with : (bus : Bus) (core : ℕ) → IsCoherent bus → core < bus.shape.cores
    → IsCoherentWith (after_publish bus core) (sees bus core)
publish-with bus core h inside =
    let lines : List ℕ = (bus.core core).buffer.lines in
    let mid : Bus = after_publish_lines bus core lines in
    let done = publish_lines-published lines bus core h (record { in_cores = inside; are = refl }) in
    with-same (after_settling mid core) (sees mid core) (sees bus core)
    (λ a aligned x. done.sees_is a (subst (λ (n : ℕ). a % n ≡ 0) done.length aligned) x)
    (settle-with mid core done.coherent (rw done.shape inside) done.empty)
