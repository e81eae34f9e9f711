-- What a message makes of the other cores, where it can violate none: their marks and their buffers stay in order.
use Rattle.std.proofs.Common.{◌≡◌, ◌≢◌, ◌⊎◌, ℕ, ◌<◌, ◌==◌, ◌||◌, ◌&&◌, not, Bool, true, false, List, length, refl, sym, subst, ◌∙◌, inl, inr, arith, eqb-true}
use Rattle.std.proofs.lemmas.Bool.{and_parts, both_ways, cases_Bool, cond-false}
use Rattle.std.proofs.lemmas.Bool.Decides.{nat_tests}
use Rattle.memory_bytes.proofs.SmallFacts.{enters_new}
use Rattle.spec_states.specs.declared.line.LineState.{LineState}
use Rattle.spec_states.specs.declared.line.Marks.{Marks}
use Rattle.spec_states.specs.declared.next.Next.{Next}
use Rattle.spec_states.specs.Copies.{copy_of}
use Rattle.spec_states.specs.Mask.{has}
use Rattle.spec_states.specs.Rows.{GivesWay, requires_ownership}
use Rattle.spec_states.specs.States.{is_speculative}
use Rattle.spec_states.specs.Tables.{is_written}
use Rattle.spec_states.proofs.RowLaws.{speculative-valid, other_load-violates}
use Rattle.orb.specs.Lines.{holds, is_full, IsEachOnce}
use Rattle.bus_states.specs.declared.notice.Notice.{Notice}
use Rattle.bus_states.specs.declared.notice.Notice.TheVariants.{Load, Store, Publish}
use Rattle.bus_states.specs.Bus.{CoreState, Bus, is_later}
use Rattle.bus_states.specs.Coherent.{speculates}
use Rattle.bus_states.specs.Messages.{Message, bytes_after, changed_core, dropped_core, heard_core, order, reply, reply_to, violates, with_copy}
use Rattle.spec_states.specs.Copies as copies
use Rattle.bus_states.proofs.Cores.{entry-limit}
use Rattle.bus_states.proofs.Hurting.{reply-violates}
use Rattle.bus_states.proofs.Replies.{reply-follows, reply-gives_way}
use Rattle.never_or_shown.proofs.Tidy.{IsRight, IsTidy, IsChange, Stays, as_copy, from_copy, no_bytes, changed-tidy, changed-masks, carried-loaded, carried-written, carried-mask, required-written, mask-marked}

-- where an epoch stores in this line, the others that it stores in, and that are shared, are fewer than a buffer takes
abbrev pub FitsBuffer : (ℕ → Type 0) → (ℕ → Type 0) → ℕ → ℕ → Type 0
FitsBuffer W H addr limit =
    W addr → (lines : List ℕ) → IsEachOnce lines → ((a : ℕ) → holds lines a ≡ true → (a ≢ addr) × W a × H a) → length lines < limit

-- what is known of a core that hears of a line, where it speculates: its epoch and the sender's touch the line, but don't conflict
pub record MayHear (R W H : ℕ → Type 0) (notice : Notice) (addr : ℕ) (later : Bool) (limit : ℕ) : Type 0 where
  pub share : H addr
  pub spares : (notice ≡ Publish) ⊎ (later ≡ true) → notice ≢ Load → R addr → ⊥
  pub fits : later ≡ true → FitsBuffer W H addr limit

-- ---- one core

none_hit : (same hit late : Bool) → hit ≡ false → late ≡ false → (not same && (hit || late)) ≡ false
none_hit same hit late e f = grind (arith, nat_tests)

none_late : (enters full later : Bool) → (later ≡ true → enters ≡ true → full ≡ true → ⊥) → ((enters && full) && later) ≡ false
none_late true true true none = absurd (none refl refl refl)
none_late true true false none = refl
none_late true false later none = refl
none_late false full later none = refl

no_load : (notice : Notice) (s : LineState) (marks : Marks) (later : Bool) → (reply_to notice s marks (order later)).violated ≡ true → notice ≢ Load
no_load Load s marks later is same = both_ways _ (other_load-violates s marks) is
no_load Store s marks later is same = cc
no_load Publish s marks later is same = cc

module _ (R W H : ℕ → Type 0) (core : CoreState) (h : IsTidy R W H core) (notice : Notice) (addr : ℕ) (later : Bool) (limit : ℕ)
    (may : speculates core.attempt ≡ true → MayHear R W H notice addr later limit) (limit_is : speculates core.attempt ≡ true → core.buffer.limit ≡ limit) where
  abbrev state : LineState
  state = (core.copy addr).state

  abbrev marks : Marks
  marks = (core.copy addr).marks

  abbrev next : Next
  next = reply_to notice (core.copy addr).state (core.copy addr).marks (order later)

  right : IsRight state marks
  right = (h.fit addr).right

  row : GivesWay state marks next
  row = reply-gives_way notice state marks (order later) right.marked

  runs : is_speculative state ≡ true → speculates core.attempt ≡ true
  runs marked = elim (cases_Bool (speculates core.attempt)) [
    | inl is ↦ is
    | inr out ↦ absurd (both_ways (is_speculative state) (h.unmarked out addr) marked)
  ]

  pub unhit : next.violated ≡ false
  unhit = elim (cases_Bool next.violated) [
    | inl is ↦
        (let why = reply-violates notice state marks later is in
        let parts = and_parts (is_speculative state) marks.loaded why.0 in
        absurd ((may (runs parts.0)).spares why.1 (no_load notice state marks later is) ((h.fit addr).read parts.1)))
    | inr out ↦ out
  ]

  entered : next.enters ≡ true → (is_speculative state ≡ true) × (is_written marks ≡ true)
  entered is =
      let required = (and_parts (requires_ownership next.state next.marks) (not (requires_ownership state marks)) (sym row.enters ∙ is)).0 in
      carried-written state marks (subst (λ (x : Marks). is_written x ≡ true) (row.keeps_marks unhit) (required-written next.state next.marks required))

  no_room : later ≡ true → next.enters ≡ true → is_full core.buffer ≡ true → ⊥
  no_room after is full =
      let stored = entered is in
      let known = may (runs stored.0) in
      let out : holds core.buffer.lines addr ≡ false = enters_new (holds core.buffer.lines addr) (requires_ownership state marks) (requires_ownership next.state next.marks) next.enters (h.listed addr) row.enters is in
      let few : length core.buffer.lines < limit = known.fits after ((h.fit addr).written stored.1) core.buffer.lines h.once (λ a held. (
        λ same. both_ways (holds core.buffer.lines addr) out (subst (λ (x : ℕ). holds core.buffer.lines x ≡ true) same held),
        (h.fit a).written (required-written (core.copy a).state (core.copy a).marks (sym (h.listed a) ∙ held)),
        h.share a held,
      )) in
      let all : length core.buffer.lines ≡ core.buffer.limit = eqb-true _ _ full in
      let takes = limit_is (runs stored.0) in
      omega (arith, few, all, takes)

  pub roomy : ((next.enters && is_full core.buffer) && later) ≡ false
  roomy = none_late next.enters (is_full core.buffer) later no_room

  change : IsChange (R addr) (W addr) (H addr) core.attempt (core.copy addr) next
  change = record {
    enters = row.enters;
    stays_required = row.stays_required unhit;
    fit = record {
      right = from_copy (copy_of next.state next.marks (bytes_after notice next.marks.bytes no_bytes no_bytes)) no_bytes
          (reply-follows notice state marks (order later) no_bytes no_bytes no_bytes (λ other. refl) (as_copy state marks right));
      read = λ is. (h.fit addr).read (carried-loaded state marks (subst (λ (x : Marks). x.loaded ≡ true) (row.keeps_marks unhit) is));
      written = λ is. (h.fit addr).written (carried-written state marks (subst (λ (x : Marks). is_written x ≡ true) (row.keeps_marks unhit) is)).1;
    };
    entered = λ is. (may (runs (entered is).0)).share;
    unmarked = λ quiet. row.unmarked (h.unmarked quiet addr);
  }

  pub changed-stays : (cell : ℕ → ℕ) → Stays R W H core (changed_core addr next cell core)
  changed-stays cell = record {
    tidy = changed-tidy R W H core h addr next cell change;
    masks = changed-masks core addr next cell (λ x had. (
      speculative-valid next.state (row.stays_marked unhit (mask-marked state marks x right had)),
      subst (λ (y : Marks). has y.bytes x ≡ true) (sym (row.keeps_marks unhit)) (carried-mask state marks x right had),
    ));
    attempt = refl;
    limit = entry-limit next.enters addr core.buffer;
  }

-- ---- the cores of a bus

module _ (R W H : ℕ → Type 0) (bus : Bus) (message : Message) (k limit : ℕ) (h : IsTidy R W H (bus.core k))
    (may : speculates (bus.core k).attempt ≡ true → MayHear R W H message.notice message.addr (is_later bus message.sender k) limit)
    (limit_is : speculates (bus.core k).attempt ≡ true → (bus.core k).buffer.limit ≡ limit) where
  pub unviolated : violates bus message k ≡ false
  unviolated =
      none_hit (k == message.sender) (reply bus message k).violated (((reply bus message k).enters && is_full (bus.core k).buffer) && is_later bus message.sender k)
      (unhit R W H (bus.core k) h message.notice message.addr (is_later bus message.sender k) limit may limit_is)
      (roomy R W H (bus.core k) h message.notice message.addr (is_later bus message.sender k) limit may limit_is)

  pub heard-stays : Stays R W H (bus.core k) (heard_core bus message k)
  heard-stays =
      subst (λ (c : CoreState). Stays R W H (bus.core k) c)
      (sym (cond-false (violates bus message k) (with_copy message.addr copies.no_copy (dropped_core (bus.core k)))
      (changed_core message.addr (reply bus message k) (bytes_after message.notice (reply bus message k).marks.bytes ((bus.core k).copy message.addr).cell message.line) (bus.core k)) unviolated))
      (changed-stays R W H (bus.core k) h message.notice message.addr (is_later bus message.sender k) limit may limit_is
      (bytes_after message.notice (reply bus message k).marks.bytes ((bus.core k).copy message.addr).cell message.line))
