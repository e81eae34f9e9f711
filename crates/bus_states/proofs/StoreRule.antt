-- A speculative store does what the store's rule says.
use Rattle.std.proofs.Common.{◌≡◌, ℕ, ◌+◌, ◌-◌, ◌%◌, ◌<◌, ◌≤◌, ◌==◌, ◌≢◌, ◌⊎◌, ◌&&◌, ◌||◌, Bool, true, false, cond, Option, None, refl, sym, ap, subst, ◌∙◌, lt-ltb}
use Rattle.std.proofs.lemmas.Bool.{or_right, both_ways, or_parts}
use Rattle.memory_bytes.specs.Bytes.{IsWidth, byte_of}
use Rattle.rv32_image.proofs.SmallFacts.{or_false}
use Rattle.spec_states.specs.declared.line.Marks.{Marks}
use Rattle.spec_states.specs.Copies.{LineCopy, IsUpToDate}
use Rattle.spec_states.specs.Mask.{has, is_within}
use Rattle.spec_states.specs.Tables.{marks_of, marks_after_store}
use Rattle.spec_states.proofs.CopyLaws.{own_store-marks, own_store-mask}
use Rattle.spec_states.proofs.RowLaws.{owned-valid}
use Rattle.cache_lines.specs.Protocol.{copy_with_number}
use Rattle.orb.specs.Lines.{is_full}
use Rattle.violations.specs.View
use Rattle.violations.specs.View.{epoch_of, is_accessed, IsLoad, Runs}
use Rattle.violations.specs.Rule.{HurtsLater, Guards, OwnsIn, IsCrowded, Stores}
use Rattle.bus_states.specs.declared.notice.Notice.TheVariants.{Store}
use Rattle.bus_states.specs.Bus.{CoreState, Bus, committed, sees, line_of, offset_of}
use Rattle.bus_states.specs.Coherent.{IsCoherent}
use Rattle.bus_states.specs.Messages.{Room, IsRoom, message_of, violates, is_busy, is_alone, with_copy, after_message}
use Rattle.bus_states.specs.Speculative.{own, holds_line, room_for, no_room, kept_line, store_next, owns, after_claim, with_bytes, after_store, store_wait, store_violates}
use Rattle.bus_states.specs.Views.{view_of}
use Rattle.bus_states.proofs.Accesses.{MayAccess, store-owned, store-claims, store-goes_on, IsClaimed, claim-with, claim-writes, store-with, store-valid}
use Rattle.bus_states.proofs.AttemptRules.{with-committed}
use Rattle.bus_states.proofs.Coherence.{IsCoherentWith, committed-with, coherent-with}
use Rattle.bus_states.proofs.Copies.{itself}
use Rattle.bus_states.proofs.Guarding.{line-viewed, same-line, modified-marked, modified-owns_line, modified-owns, own-modified, owned-modified, loaded-shared}
use Rattle.bus_states.proofs.Hurting.{quiet-hurts, hurts-same, hurts-then_none}
use Rattle.bus_states.proofs.InLine.{load-lies, accessed-line, over-line}
use Rattle.bus_states.proofs.QuietCalls.{Writes, written-quietly}
use Rattle.bus_states.proofs.Showing.{line_at, place_at, aligned_at, sees_at, own_at, guarded_at}
use Rattle.bus_states.proofs.Taking.{may-access, HasTaken, kept-taken, told-taken, taken-sees, by_line, carried-bytes, carried-loaded}
use Rattle.bus_states.proofs.Violating.{access-meets, guards-loaded, store-tells, in_case}

claim-taken : (bus : Bus) (core addr offset width : ℕ) (room : Option Room) → IsCoherent bus → MayAccess bus core addr room → IsWidth width
    → offset + width ≤ bus.line_length → store_wait bus core addr offset width room ≡ None
    → HasTaken bus (after_claim bus core addr offset width room) core addr (store_next bus core addr offset width).marks (store_violates bus core addr)
claim-taken bus core addr offset width room h may widths inside goes =
    pick (owns bus core addr) refl (claim-with bus core addr offset width room h may widths inside goes).coherent
  where
    pick : (b : Bool) → owns bus core addr ≡ b
        → IsCoherentWith (cond b (kept_line bus core addr (store_next bus core addr offset width))
        (after_message bus (message_of bus Store core addr) (room_for bus core addr room) (store_next bus core addr offset width))) (committed bus)
        → HasTaken bus (cond b (kept_line bus core addr (store_next bus core addr offset width))
        (after_message bus (message_of bus Store core addr) (room_for bus core addr room) (store_next bus core addr offset width))) core addr
        (store_next bus core addr offset width).marks (λ k. cond b false (violates bus (message_of bus Store core addr) k))
    pick true e with =
        kept-taken bus core addr (store_next bus core addr offset width) h (store-owned bus core addr offset width room h may widths inside e) (store-valid bus core addr offset width widths) with
    pick false e with =
        let on = store-goes_on (owns bus core addr) (holds_line bus core addr) (no_room room) ((store_next bus core addr offset width).enters && is_full (bus.core core).buffer) (is_busy bus (message_of bus Store core addr)) goes e in
        told-taken bus Store core addr (room_for bus core addr room) (store_next bus core addr offset width) h (λ e. cc)
        (store-claims bus core addr offset width room h may widths inside e on.1 on.0) with

-- ---- the bytes of a store

written-core : (bus : Bus) (core addr offset width value : ℕ)
    → (with_bytes bus core addr offset width value).core core ≡ with_copy addr (copy_with_number offset width value (own bus core addr)) (bus.core core)
written-core bus core addr offset width value = rw (itself core) refl

-- the marks stay
written-marks : (bus : Bus) (core addr offset width value a : ℕ)
    → (own (with_bytes bus core addr offset width value) core a).marks ≡ (own bus core a).marks
written-marks bus core addr offset width value a =
    ap (λ (state : CoreState). (state.copy a).marks) (written-core bus core addr offset width value)
    ∙ by_line (λ (a : ℕ). (cond (addr == a) (copy_with_number offset width value (own bus core addr)) (own bus core a)).marks ≡ (own bus core a).marks) addr a
    (rw (itself addr) refl) (λ e. rw e refl)

-- the bytes of the store are in the copy
written-cell : (bus : Bus) (core addr offset width value a x : ℕ)
    → (own (with_bytes bus core addr offset width value) core a).cell x
    ≡ cond ((addr == a) && is_within offset width x) (byte_of value (x - offset)) ((own bus core a).cell x)
written-cell bus core addr offset width value a x =
    ap (λ (state : CoreState). (state.copy a).cell x) (written-core bus core addr offset width value)
    ∙ by_line (λ (a : ℕ). (cond (addr == a) (copy_with_number offset width value (own bus core addr)) (own bus core a)).cell x
    ≡ cond ((addr == a) && is_within offset width x) (byte_of value (x - offset)) ((own bus core a).cell x)) addr a
    (rw (itself addr) refl) (λ e. rw e refl)

-- what a store leaves of the core's lines: its bytes are in the mask, the core sees them, and the same lines are loaded
pub record HasStored (old new : Bus) (core addr offset width value : ℕ) (hurt : ℕ → Bool) : Type 0 where
  pub shape : new.shape ≡ old.shape
  pub length : new.line_length ≡ old.line_length
  pub coherent : IsCoherentWith new (committed old)
  pub others : HurtsLater (view_of old) (view_of new) core hurt
  pub attempt : (new.core core).attempt ≡ (old.core core).attempt
  pub masks : (a : ℕ) → a % old.line_length ≡ 0 → (x : ℕ)
      → has (own new core a).marks.bytes x ≡ (has (own old core a).marks.bytes x || ((addr == a) && is_within offset width x))
  pub loaded : (a : ℕ) → a % old.line_length ≡ 0 → (own new core a).marks.loaded ≡ (own old core a).marks.loaded
  pub sees_is : (a : ℕ) → a % old.line_length ≡ 0 → (x : ℕ)
      → sees new core a x ≡ cond ((addr == a) && is_within offset width x) (byte_of value (x - offset)) (sees old core a x)

-- the bytes of a store over a line of which a mask has them
seen-after : (test mask : Bool) (byte cell c d : ℕ) → (test ≡ true → mask ≡ true) → c ≡ d
    → cond mask (cond test byte cell) c ≡ cond test byte (cond mask cell d)
seen-after true true byte cell c d up e = refl
seen-after true false byte cell c d up e = let x : false ≡ true = up refl in cc
seen-after false true byte cell c d up e = refl
seen-after false false byte cell c d up e = e

pub store-stored : (bus : Bus) (core addr offset width value : ℕ) (room : Option Room) → IsCoherent bus → MayAccess bus core addr room → IsWidth width
    → offset + width ≤ bus.line_length → store_wait bus core addr offset width room ≡ None
    → HasStored bus (after_store bus core addr offset width value room) core addr offset width value (store_violates bus core addr)
store-stored bus core addr offset width value room h may widths inside goes =
    record {
      shape = t.shape;
      length = t.length;
      coherent = with;
      others =
          hurts-then_none (view_of bus) (view_of mid) (view_of new) core (store_violates bus core addr) t.attempt t.others
          (quiet-hurts mid core _ mid.memory _ mid_coherent (written-quietly mid core addr offset width value mid_coherent writes));
      attempt = ap (λ (state : CoreState). state.attempt) (written-core mid core addr offset width value) ∙ t.attempt;
      masks = masks;
      loaded =
          λ a aligned. ap (λ (marks : Marks). marks.loaded) (written-marks mid core addr offset width value a)
          ∙ by_line (λ (a : ℕ). a % bus.line_length ≡ 0 → (own mid core a).marks.loaded ≡ (own bus core a).marks.loaded) addr a
          (λ _. ap (λ (marks : Marks). marks.loaded) t.marks_are ∙ ap (λ (marks : Marks). marks.loaded) marks ∙ carried-loaded mine (committed bus addr) up)
          (λ e a_aligned. (t.elsewhere a a_aligned e).loaded) aligned;
      sees_is = sees_is;
    }
  where
    mid : Bus
    mid = after_claim bus core addr offset width room

    new : Bus
    new = after_store bus core addr offset width value room

    claimed : IsClaimed bus (after_claim bus core addr offset width room) core addr offset width
    claimed = claim-with bus core addr offset width room h may widths inside goes

    t : HasTaken bus (after_claim bus core addr offset width room) core addr (store_next bus core addr offset width).marks (store_violates bus core addr)
    t = claim-taken bus core addr offset width room h may widths inside goes

    with : IsCoherentWith (after_store bus core addr offset width value room) (committed bus)
    with = store-with bus core addr offset width value room h may widths inside goes

    mid_coherent : IsCoherent (after_claim bus core addr offset width room)
    mid_coherent = coherent-with mid (committed bus) t.coherent

    writes : Writes (after_claim bus core addr offset width room) core addr offset width
    writes = claim-writes bus core addr offset width room may inside claimed

    mine : LineCopy
    mine = own bus core addr

    alone : Bool
    alone = is_alone bus (message_of bus Store core addr)

    up : IsUpToDate (own bus core addr) (committed bus addr)
    up = (h.lines addr may.aligned).up_to_date core

    marks : (store_next bus core addr offset width).marks ≡ marks_after_store (marks_of (own bus core addr).state (own bus core addr).marks) offset width
    marks = own_store-marks mine.state mine.marks offset width alone

    mask : (x : ℕ) → has (store_next bus core addr offset width).marks.bytes x ≡ (has (own bus core addr).marks.bytes x || is_within offset width x)
    mask x = own_store-mask mine.state mine.marks offset width alone x
        ∙ ap (λ (bytes : ℕ). has bytes x || is_within offset width x) (carried-bytes mine (committed bus addr) up)

    masks : (a : ℕ) → a % bus.line_length ≡ 0 → (x : ℕ)
        → has (own new core a).marks.bytes x ≡ (has (own bus core a).marks.bytes x || ((addr == a) && is_within offset width x))
    masks a aligned x =
        ap (λ (marks : Marks). has marks.bytes x) (written-marks mid core addr offset width value a)
        ∙ by_line (λ (a : ℕ). a % bus.line_length ≡ 0 → has (own mid core a).marks.bytes x ≡ (has (own bus core a).marks.bytes x || ((addr == a) && is_within offset width x))) addr a
        (λ _. ap (λ (marks : Marks). has marks.bytes x) t.marks_are ∙ mask x ∙ rw (itself addr) refl)
        (λ e a_aligned. ap (λ (bytes : ℕ). has bytes x) (t.elsewhere a a_aligned e).bytes ∙ rw e (sym (or_false (has (own bus core a).marks.bytes x)))) aligned

    sees_mid : (a : ℕ) → a % bus.line_length ≡ 0 → (x : ℕ) → sees mid core a x ≡ sees bus core a x
    sees_mid =
        taken-sees bus mid core addr (store_next bus core addr offset width).marks (store_violates bus core addr) h t may.aligned
        (λ x e. (or_parts (has mine.marks.bytes x) (is_within offset width x) (sym (mask x) ∙ e)).0)

    same : (a : ℕ) → a % bus.line_length ≡ 0 → (x : ℕ) → committed new a x ≡ committed mid a x
    same a aligned x =
        committed-with new (committed bus) with a (subst (λ (n : ℕ). a % n ≡ 0) (sym t.length) aligned) x
        ∙ sym (committed-with mid (committed bus) t.coherent a (subst (λ (n : ℕ). a % n ≡ 0) (sym t.length) aligned) x)

    sees_is : (a : ℕ) → a % bus.line_length ≡ 0 → (x : ℕ)
        → sees new core a x ≡ cond ((addr == a) && is_within offset width x) (byte_of value (x - offset)) (sees bus core a x)
    sees_is a aligned x =
        ap (λ (cell : ℕ). cond (has (own new core a).marks.bytes x) cell (committed new a x)) (written-cell mid core addr offset width value a x)
        ∙ seen-after ((addr == a) && is_within offset width x) (has (own new core a).marks.bytes x) (byte_of value (x - offset)) ((own mid core a).cell x)
        (committed new a x) (committed mid a x)
        (λ e. masks a aligned x ∙ or_right (has (own bus core a).marks.bytes x) ((addr == a) && is_within offset width x) e) (same a aligned x)
        ∙ ap (λ (marks : Marks). cond ((addr == a) && is_within offset width x) (byte_of value (x - offset)) (cond (has marks.bytes x) ((own mid core a).cell x) (committed mid a x)))
        (written-marks mid core addr offset width value a)
        ∙ ap (λ (byte : ℕ). cond ((addr == a) && is_within offset width x) (byte_of value (x - offset)) byte) (sees_mid a aligned x)

-- ---- whom a store violates

-- those that guard one of its bytes, and those whose full buffers have no place for the line
store-meets : (bus : Bus) (core address width k : ℕ) → IsCoherent bus → IsLoad bus.shape address width
    → store_violates bus core (line_of bus.line_length address) k ≡ true
    → Guards (view_of bus) k (is_accessed address width) ⊎ IsCrowded (view_of bus) k address
store-meets bus core address width k h access hit =
    let addr : ℕ = line_at bus address in
    access-meets bus (message_of bus Store core addr) k address width h access refl
    (in_case (owns bus core addr) (violates bus (message_of bus Store core addr) k) hit)

-- nobody, where the core owns a byte of the line
store-told : (bus : Bus) (core address k : ℕ) → IsCoherent bus → OwnsIn (view_of bus) core (View.line_of bus.shape address)
    → store_violates bus core (line_of bus.line_length address) k ≡ false
store-told bus core address k h in_line =
    let addr : ℕ = line_at bus address in
    let mine : LineCopy = own bus core addr in
    let some = own-modified bus core addr in_line.at (same-line bus h in_line.at address in_line.in_line) in_line.owned in
    let marked = modified-marked mine (committed bus addr) ((h.lines addr (aligned_at bus h address)).up_to_date core) some in
    rw (modified-owns_line mine.state mine.marks marked some) refl

-- a core that owns no byte of a line which another one has loaded may not store to it and tell nobody
store-unowned : (bus : Bus) (core address k : ℕ) → IsCoherent bus
    → ((a : ℕ) → View.line_of bus.shape a ≡ View.line_of bus.shape address → (view_of bus).own core a ≡ false)
    → core ≢ k → ((bus.core k).copy (line_of bus.line_length address)).marks.loaded ≡ true
    → owns bus core (line_of bus.line_length address) ≡ false
store-unowned bus core address k h none apart loaded =
    elim (owns bus core (line_at bus address)) as (λ b. owns bus core (line_at bus address) ≡ b → b ≡ false) [
      | true ↦ λ e.
          let mine : LineCopy = own bus core (line_at bus address) in
          let shared = loaded-shared bus core k (line_at bus address) h (aligned_at bus h address) apart loaded in
          let byte = modified-owns bus core (line_at bus address) h (owned-valid mine.state mine.marks e) (owned-modified mine.state mine.marks e shared) in
          absurd (both_ways ((view_of bus).own core byte.at) (none byte.at (byte.in_line ∙ sym (line-viewed bus h address))) byte.owned)
      | false ↦ λ e. refl
    ] refl

-- then all later cores that guard one of its bytes
store-tells_later : (bus : Bus) (core address width k : ℕ) → IsCoherent bus → IsLoad bus.shape address width
    → ((a : ℕ) → View.line_of bus.shape a ≡ View.line_of bus.shape address → (view_of bus).own core a ≡ false)
    → k ≢ core → epoch_of (bus.core core).attempt < epoch_of (bus.core k).attempt → Guards (view_of bus) k (is_accessed address width)
    → store_violates bus core (line_of bus.line_length address) k ≡ true
store-tells_later bus core address width k h access none away later guards =
    let addr : ℕ = line_at bus address in
    let loaded = guards-loaded bus k address width h access guards in
    rw (store-unowned bus core address k h none (λ same. away (sym same)) loaded)
    (store-tells bus (message_of bus Store core addr) k h (aligned_at bus h address) refl away (lt-ltb (epoch_of (bus.core core).attempt) (epoch_of (bus.core k).attempt) later) loaded)

-- a store that is answered
pub store-stores : (bus : Bus) (core address width value : ℕ) (room : Option Room) (hurt : ℕ → Bool) → IsCoherent bus
    → Runs (view_of bus) core false → IsLoad bus.shape address width → IsRoom (bus.core core) room
    → store_wait bus core (line_of bus.line_length address) (offset_of bus.line_length address) width room ≡ None
    → ((k : ℕ) → hurt k ≡ store_violates bus core (line_of bus.line_length address) k)
    → Stores (view_of bus) (view_of (after_store bus core (line_of bus.line_length address) (offset_of bus.line_length address) width value room))
    core address width value hurt
store-stores bus core address width value room hurt h runs access victim goes are =
    let addr : ℕ = line_at bus address in
    let offset : ℕ = place_at bus address in
    let new : Bus = after_store bus core addr offset width value room in
    let lies = load-lies bus address width h access in
    let t = store-stored bus core addr offset width value room h (may-access bus core address width room h runs access victim) access.wide lies.ends goes in
    let owned : (a : ℕ) → (view_of new).own core a ≡ ((view_of bus).own core a || is_accessed address width a) =
    λ a. own_at bus new t.length core a ∙ t.masks (line_at bus a) (aligned_at bus h a) (place_at bus a)
    ∙ ap (λ (test : Bool). (view_of bus).own core a || test) (sym (accessed-line bus.line_length bus.shape.size address width a lies)) in
    record {
      shape = t.shape;
      cached = refl;
      others = hurts-same (view_of bus) (view_of new) core hurt (store_violates bus core addr) are t.others;
      committed = with-committed bus new h t.length t.coherent;
      attempt = t.attempt;
      sees =
          λ a. sees_at bus new t.length core a ∙ t.sees_is (line_at bus a) (aligned_at bus h a) (place_at bus a)
          ∙ sym (over-line bus.line_length bus.shape.size address width value ((view_of bus).sees core) a lies);
      own = owned;
      guarded = λ a. guarded_at bus new t.length core a ∙ t.loaded (line_at bus a) (aligned_at bus h a);
      meets = λ k hit. store-meets bus core address width k h access (sym (are k) ∙ hit);
      eager = λ k hit. refl;
      told = λ owns k. are k ∙ store-told bus core address k h owns;
      tells = λ cached none k away later guards. are k ∙ store-tells_later bus core address width k h access none away later guards;
    }
