-- Whom a message violates: those that have loaded its line, and those whose full buffers have no place for it.
use Rattle.std.proofs.Common.{◌≡◌, ◌≢◌, ℕ, zero, suc, ◌%◌, ◌<◌, ◌≤◌, ◌==◌, ◌||◌, ◌&&◌, ◌⊎◌, inl, inr, not, nat_lt, Bool, true, false, cond, List, [], ◌∷◌, length, slice_index_or, refl, sym, ap, subst, ◌∙◌, arith, ne_eqb}
use Rattle.std.proofs.lemmas.Bool.{or_right, and_parts, both_ways, false_from_ne_true, not-true}
use Rattle.std.proofs.lemmas.Bool.Decides.{nat_tests}
use Rattle.spec_states.specs.declared.line.LineState.{LineState}
use Rattle.spec_states.specs.declared.line.Marks.{Marks}
use Rattle.spec_states.specs.declared.next.Next.{Next}
use Rattle.spec_states.specs.Copies.{LineCopy, IsUpToDate}
use Rattle.spec_states.specs.Rows.{requires_ownership, GivesWay}
use Rattle.spec_states.specs.States.{is_speculative}
use Rattle.spec_states.proofs.MaskLaws.{width-bounds}
use Rattle.spec_states.proofs.RowLaws.{other_load-violates, other_store-violates, other_publish-violates, speculative-valid}
use Rattle.orb.specs.Lines.{holds, is_full, IsEachOnce}
use Rattle.violations.specs.View
use Rattle.violations.specs.View.{is_accessed, IsLoad}
use Rattle.violations.specs.Rule.{Guards, OwnsIn, AreApart, IsCrowded}
use Rattle.bus_states.specs.declared.notice.Notice.{Notice}
use Rattle.bus_states.specs.declared.notice.Notice.TheVariants.{Load, Store, Publish}
use Rattle.bus_states.specs.Bus.{Bus, committed, is_later, line_of}
use Rattle.bus_states.specs.Coherent.{IsCoherent}
use Rattle.bus_states.specs.Messages.{Message, reply, reply_to, order, overflows, violates}
use Rattle.bus_states.specs.Views.{view_of}
use Rattle.bus_states.proofs.Addresses.{line-aligned}
use Rattle.bus_states.proofs.Copies.{itself, required-valid}
use Rattle.bus_states.proofs.Guarding.{line-viewed, guarded-line, modified-marked, required-modified, modified-owns}
use Rattle.bus_states.proofs.Heard.{message-gives_way, absent-unviolated}
use Rattle.bus_states.proofs.Hurting.{cause, reply-violates, loaded-marked}
use Rattle.bus_states.proofs.InLine.{load-lies, accessed-there}
use Rattle.bus_states.proofs.Taking.{carried-bytes}

-- ---- the lines of a full buffer

holds-at : (lines : List ℕ) (i d : ℕ) → i < length lines → holds lines (slice_index_or lines i d) ≡ true
holds-at [] i d lt = absurd (omega arith)
holds-at (line ∷ lines) zero d lt = rw (itself line) refl
holds-at (line ∷ lines) (suc i) d lt = or_right (line == slice_index_or lines i d) _ (holds-at lines i d (omega arith))

once-apart : (lines : List ℕ) → IsEachOnce lines → AreApart lines
once-apart [] once = tt
once-apart (line ∷ lines) once = (once.0, once-apart lines once.1)

-- its core owns a byte of each of them
listed-owns : (bus : Bus) (k line : ℕ) → IsCoherent bus → holds (bus.core k).buffer.lines line ≡ true → OwnsIn (view_of bus) k line
listed-owns bus k line h listed =
    let required = sym ((h.cores k).listed line) ∙ listed in
    modified-owns bus k line h (required-valid ((bus.core k).copy line).state ((bus.core k).copy line).marks required)
    (required-modified ((bus.core k).copy line).state ((bus.core k).copy line).marks required)

-- a line that has to enter a buffer is not there yet, and its core has modified bytes of it
enters-modified : (copy : LineCopy) (c : ℕ → ℕ) (next : Next) → IsUpToDate copy c → GivesWay copy.state copy.marks next
    → next.enters ≡ true → (copy.marks.bytes ≢ 0) × (requires_ownership copy.state copy.marks ≡ false)
enters-modified copy c next h row enters =
    let both = sym row.enters ∙ enters in
    let required : requires_ownership next.state next.marks ≡ true = (and_parts (requires_ownership next.state next.marks) _ both).0 in
    let unviolated : next.violated ≡ false = false_from_ne_true next.violated (λ e. both_ways _ (ap (λ (s : LineState). requires_ownership s next.marks) (row.goes e)) required) in
    let same : next.marks.bytes ≡ copy.marks.bytes = ap (λ (marks : Marks). marks.bytes) (row.keeps_marks unviolated) ∙ carried-bytes copy c h in (
      (λ none. required-modified next.state next.marks required (same ∙ none)),
      not-true (requires_ownership copy.state copy.marks) (and_parts (requires_ownership next.state next.marks) _ both).1,
    )

-- a core that a message violates is there
violated-there : (bus : Bus) (message : Message) (k : ℕ) → IsCoherent bus → violates bus message k ≡ true → k < bus.shape.cores
violated-there bus message k h hit =
    elim (nat_lt k bus.shape.cores) as (λ b. nat_lt k bus.shape.cores ≡ b → k < bus.shape.cores) [
      | true ↦ λ e. grind (arith, nat_tests)
      | false ↦ λ e.
          let past : bus.shape.cores ≤ k = grind (arith, nat_tests) in
          absurd (both_ways (violates bus message k) (absent-unviolated bus message k (h.absent k past)) hit)
    ] refl

-- a core whose full buffer has to take the line of this address
overflows-crowded : (bus : Bus) (message : Message) (k address : ℕ) → IsCoherent bus → line_of bus.line_length address ≡ message.addr
    → k < bus.shape.cores → overflows bus message k ≡ true → IsCrowded (view_of bus) k address
overflows-crowded bus message k address h at inside over =
    let copy : LineCopy = (bus.core k).copy message.addr in
    let aligned : message.addr % bus.line_length ≡ 0 = subst (λ (addr : ℕ). addr % bus.line_length ≡ 0) at (line-aligned bus.line_length address h.length_is) in
    let up = (h.lines message.addr aligned).up_to_date k in
    let entering = enters-modified copy (committed bus message.addr) (reply bus message k) up (message-gives_way bus message k h aligned)
    (and_parts (reply bus message k).enters (is_full (bus.core k).buffer) over).0 in
    let valid = speculative-valid copy.state (modified-marked copy (committed bus message.addr) up entering.0) in
    let line : View.line_of bus.shape address ≡ message.addr = line-viewed bus h address ∙ at in
    record {
      cached = refl;
      here = subst (λ (line : ℕ). OwnsIn (view_of bus) k line) (sym line) (modified-owns bus k message.addr h valid entering.0);
      others = (bus.core k).buffer.lines;
      full = most (length (bus.core k).buffer.lines) (bus.core k).buffer.limit bus.shape.machine.buffer_lines (and_parts (reply bus message k).enters (is_full (bus.core k).buffer) over).1 (h.limits k inside);
      apart = once-apart (bus.core k).buffer.lines (h.cores k).buffer.each_once;
      each =
          λ i d lt.
          let listed = holds-at (bus.core k).buffer.lines i d lt in (
            (λ same. both_ways (holds (bus.core k).buffer.lines message.addr) ((h.cores k).listed message.addr ∙ entering.1) (ap (λ (a : ℕ). holds (bus.core k).buffer.lines a) (sym line ∙ sym same) ∙ listed)),
            listed-owns bus k (slice_index_or (bus.core k).buffer.lines i d) h listed,
          );
    }
  where
    most : (n limit lines : ℕ) → (n == limit) ≡ true → limit ≡ lines → lines ≤ n
    most n limit lines e f = grind (arith, nat_tests)

-- ---- whom a message violates

-- those that have loaded the line, and those whose full buffers have no place for it
pub violates-meets : (bus : Bus) (message : Message) (k address : ℕ) → IsCoherent bus → line_of bus.line_length address ≡ message.addr
    → violates bus message k ≡ true
    → (((bus.core k).copy message.addr).marks.loaded ≡ true) ⊎ IsCrowded (view_of bus) k address
violates-meets bus message k address h at hit =
    let copy : LineCopy = (bus.core k).copy message.addr in
    elim (cause (k == message.sender) (reply bus message k).violated (overflows bus message k) (is_later bus message.sender k) hit).1 [
      | inl violated ↦ inl (and_parts (is_speculative copy.state) copy.marks.loaded (reply-violates message.notice copy.state copy.marks (is_later bus message.sender k) violated).0).1
      | inr over ↦ inr (overflows-crowded bus message k address h at (violated-there bus message k h hit) over.0)
    ]

-- a load violates these alone
pub load-crowds : (bus : Bus) (message : Message) (k address : ℕ) → IsCoherent bus → line_of bus.line_length address ≡ message.addr
    → message.notice ≡ Load → violates bus message k ≡ true → IsCrowded (view_of bus) k address
load-crowds bus message k address h at load hit =
    let copy : LineCopy = (bus.core k).copy message.addr in
    elim (cause (k == message.sender) (reply bus message k).violated (overflows bus message k) (is_later bus message.sender k) hit).1 [
      | inl violated ↦
          absurd (both_ways (reply bus message k).violated (ap (λ (notice : Notice). (reply_to notice copy.state copy.marks (order (is_later bus message.sender k))).violated) load
          ∙ other_load-violates copy.state copy.marks) violated)
      | inr over ↦ overflows-crowded bus message k address h at (violated-there bus message k h hit) over.0
    ]

-- ---- whom it has to violate

told : (same hit over : Bool) → same ≡ false → hit ≡ true → (not same && (hit || over)) ≡ true
told same hit over e f = rw (e, f) refl

-- a publish: each other core that has loaded the line
pub publish-tells : (bus : Bus) (message : Message) (k : ℕ) → IsCoherent bus → message.addr % bus.line_length ≡ 0
    → message.notice ≡ Publish → k ≢ message.sender → ((bus.core k).copy message.addr).marks.loaded ≡ true
    → violates bus message k ≡ true
publish-tells bus message k h aligned publish away loaded =
    let copy : LineCopy = (bus.core k).copy message.addr in
    let marked = loaded-marked copy (committed bus message.addr) ((h.lines message.addr aligned).up_to_date k) loaded in
    told (k == message.sender) (reply bus message k).violated _ (ne_eqb k message.sender away)
    (ap (λ (notice : Notice). (reply_to notice copy.state copy.marks (order (is_later bus message.sender k))).violated) publish
    ∙ other_publish-violates copy.state copy.marks ∙ rw (marked, loaded) refl)

-- a store: each later core that has loaded the line
pub store-tells : (bus : Bus) (message : Message) (k : ℕ) → IsCoherent bus → message.addr % bus.line_length ≡ 0
    → message.notice ≡ Store → k ≢ message.sender → is_later bus message.sender k ≡ true
    → ((bus.core k).copy message.addr).marks.loaded ≡ true → violates bus message k ≡ true
store-tells bus message k h aligned store away later loaded =
    let copy : LineCopy = (bus.core k).copy message.addr in
    let marked = loaded-marked copy (committed bus message.addr) ((h.lines message.addr aligned).up_to_date k) loaded in
    told (k == message.sender) (reply bus message k).violated _ (ne_eqb k message.sender away)
    (ap (λ (notice : Notice). (reply_to notice copy.state copy.marks (order (is_later bus message.sender k))).violated) store
    ∙ ap (λ (later : Bool). (reply_to Store copy.state copy.marks (order later)).violated) later
    ∙ other_store-violates copy.state copy.marks (order true) ∙ rw (marked, loaded) refl)

-- ---- the bytes of an access

-- the message of an access violates those that guard one of its bytes, and those whose full buffers have no place for the line
pub access-meets : (bus : Bus) (message : Message) (k address width : ℕ) → IsCoherent bus → IsLoad bus.shape address width
    → line_of bus.line_length address ≡ message.addr → violates bus message k ≡ true
    → Guards (view_of bus) k (is_accessed address width) ⊎ IsCrowded (view_of bus) k address
access-meets bus message k address width h access at hit =
    elim (violates-meets bus message k address h at hit) [
      | inl loaded ↦ inl (record { at = address; is_one = first (width-bounds width access.wide).0; guarded = guarded-line bus k message.addr address at ∙ loaded })
      | inr crowded ↦ inr crowded
    ]
  where
    first : 0 < width → is_accessed address width address ≡ true
    first some = grind (arith, nat_tests)

-- a core that guards one of its bytes has loaded the line
pub guards-loaded : (bus : Bus) (k address width : ℕ) → IsCoherent bus → IsLoad bus.shape address width
    → Guards (view_of bus) k (is_accessed address width) → ((bus.core k).copy (line_of bus.line_length address)).marks.loaded ≡ true
guards-loaded bus k address width h access guards =
    let there = accessed-there bus.line_length bus.shape.size address width guards.at (load-lies bus address width h access) guards.is_one in
    sym (guarded-line bus k (line_of bus.line_length address) guards.at (sym there.0)) ∙ guards.guarded

-- ---- a call that sends no message in this case

pub in_case : (b hit : Bool) → cond b false hit ≡ true → hit ≡ true
in_case true hit e = cc
in_case false hit e = e
