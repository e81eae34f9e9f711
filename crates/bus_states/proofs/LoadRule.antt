-- A speculative load does what the store's rule says.
use Rattle.std.proofs.Common.{◌≡◌, ℕ, zero, suc, ◌+◌, ◌^◌, ◌%◌, ◌<◌, ◌≤◌, Bool, true, false, cond, Option, None, refl, sym, ap, subst, ◌∙◌, true≢false, arith, inl, inr}
use Rattle.std.proofs.lemmas.Bool.{both_ways, and_cases, or_left}
use Rattle.std.proofs.lemmas.Bool.Decides.{nat_tests}
use Rattle.memory_bytes.specs.Bytes.{IsWidth, number_at}
use Rattle.memory_bytes.proofs.SmallFacts.{or_not}
use Rattle.spec_states.specs.declared.line.Marks.{Marks}
use Rattle.spec_states.specs.Copies.{LineCopy, IsUpToDate}
use Rattle.spec_states.specs.Mask.{has, has_all, is_within}
use Rattle.spec_states.specs.States.{is_valid}
use Rattle.spec_states.specs.Tables.{marks_of, marks_after_load}
use Rattle.spec_states.proofs.CopyLaws.{own_load-marks, own_load-read}
use Rattle.spec_states.proofs.MaskLaws.{is_within-first, is_within-later}
use Rattle.spec_states.proofs.RowLaws.{own_load-takes_hold, speculative-valid}
use Rattle.violations.specs.View.{IsLoad, Runs}
use Rattle.violations.specs.Rule.{HurtsLater, TakesIn, IsCrowded, Loads}
use Rattle.bus_states.specs.declared.notice.Notice.TheVariants.{Load}
use Rattle.bus_states.specs.Bus.{Bus, committed, sees, line_of, offset_of}
use Rattle.bus_states.specs.Coherent.{IsCoherent}
use Rattle.bus_states.specs.Messages.{Room, IsRoom, message_of, violates, is_busy, is_alone, after_message}
use Rattle.bus_states.specs.Speculative.{own, holds_line, no_room, kept_line, load_next, after_load, load_wait, load_violates}
use Rattle.bus_states.specs.Views.{view_of}
use Rattle.bus_states.proofs.Accesses.{MayAccess, load-hit, load-miss, load-goes_on, load-with}
use Rattle.bus_states.proofs.Addresses.{line-of, offset-of}
use Rattle.bus_states.proofs.AttemptRules.{with-committed}
use Rattle.bus_states.proofs.Coherence.{IsCoherentWith}
use Rattle.bus_states.proofs.Copies.{itself}
use Rattle.bus_states.proofs.Guarding.{line-viewed, own-line}
use Rattle.bus_states.proofs.Hurting.{hurts-same}
use Rattle.bus_states.proofs.InLine.{LiesInLine, load-lies, accessed-line, accessed-there, number-line}
use Rattle.bus_states.proofs.Showing.{line_at, place_at, aligned_at, sees_at, own_at, guarded_at}
use Rattle.bus_states.proofs.Taking.{may-access, HasTaken, kept-taken, told-taken, taken-sees, by_line, carried-bytes, carried-loaded}
use Rattle.bus_states.proofs.Violating.{load-crowds, in_case}

load-valid : (bus : Bus) (core addr offset width : ℕ) → is_valid (load_next bus core addr offset width).state ≡ true
load-valid bus core addr offset width =
    speculative-valid (load_next bus core addr offset width).state
    (own_load-takes_hold (own bus core addr).state (own bus core addr).marks offset width (is_alone bus (message_of bus Load core addr))).marked

pub load-taken : (bus : Bus) (core addr offset width : ℕ) (room : Option Room) → IsCoherent bus → MayAccess bus core addr room → IsWidth width
    → load_wait bus core addr room ≡ None
    → HasTaken bus (after_load bus core addr offset width room) core addr (load_next bus core addr offset width).marks (load_violates bus core addr)
load-taken bus core addr offset width room h may widths goes =
    pick (holds_line bus core addr) refl (load-with bus core addr offset width room h may widths goes)
  where
    pick : (b : Bool) → holds_line bus core addr ≡ b
        → IsCoherentWith (cond b (kept_line bus core addr (load_next bus core addr offset width))
        (after_message bus (message_of bus Load core addr) room (load_next bus core addr offset width))) (committed bus)
        → HasTaken bus (cond b (kept_line bus core addr (load_next bus core addr offset width))
        (after_message bus (message_of bus Load core addr) room (load_next bus core addr offset width))) core addr
        (load_next bus core addr offset width).marks (λ k. cond b false (violates bus (message_of bus Load core addr) k))
    pick true e with =
        kept-taken bus core addr (load_next bus core addr offset width) h (load-hit bus core addr offset width room h may widths e) (load-valid bus core addr offset width) with
    pick false e with =
        told-taken bus Load core addr room (load_next bus core addr offset width) h (λ e. cc)
        (load-miss bus core addr offset width room h may widths e
        (load-goes_on (holds_line bus core addr) (no_room room) (is_busy bus (message_of bus Load core addr)) goes e)) with

-- a byte of the access that is not in the mask
pub record IsOutside (mask offset width : ℕ) : Type 0 where
  pub at : ℕ
  pub within : is_within offset width at ≡ true
  pub out : has mask at ≡ false

-- where the mask has not all bytes of the access, there is one
is-outside : (mask offset width : ℕ) → has_all mask offset width ≡ false → IsOutside mask offset width
unfolding has_all
is-outside mask offset zero e = absurd (let x : ⊥ = cc in x)
is-outside mask offset (suc n) e =
    elim (and_cases (has mask offset) _ e) [
      | inl first ↦ record { at = offset; within = is_within-first offset (suc n) (omega arith); out = first }
      | inr others ↦
          (let rest = is-outside mask (offset + 1) n others in
          record { at = rest.at; within = is_within-later offset n rest.at rest.within; out = rest.out })
    ]

-- what a load leaves of the core's lines: the masks stay, it sees what it saw, and lines are loaded still
record HasLoaded (old new : Bus) (core addr offset width : ℕ) (hurt : ℕ → Bool) : Type 0 where
  pub shape : new.shape ≡ old.shape
  pub length : new.line_length ≡ old.line_length
  pub coherent : IsCoherentWith new (committed old)
  pub others : HurtsLater (view_of old) (view_of new) core hurt
  pub attempt : (new.core core).attempt ≡ (old.core core).attempt
  pub masks : (a : ℕ) → a % old.line_length ≡ 0 → (x : ℕ) → has (own new core a).marks.bytes x ≡ has (own old core a).marks.bytes x
  pub sees_is : (a : ℕ) → a % old.line_length ≡ 0 → (x : ℕ) → sees new core a x ≡ sees old core a x
  pub still : (a : ℕ) → a % old.line_length ≡ 0 → (own old core a).marks.loaded ≡ true → (own new core a).marks.loaded ≡ true
  -- a byte that it took from outside is one of a line that is loaded
  pub read : (x : ℕ) → is_within offset width x ≡ true → has (own old core addr).marks.bytes x ≡ false → (own new core addr).marks.loaded ≡ true
  -- and a line that is loaded now has such a byte
  pub only : (a : ℕ) → a % old.line_length ≡ 0 → (own new core a).marks.loaded ≡ true → (own old core a).marks.loaded ≡ false
      → (addr ≡ a) × IsOutside (own old core addr).marks.bytes offset width

load-loaded : (bus : Bus) (core addr offset width : ℕ) (room : Option Room) → IsCoherent bus → MayAccess bus core addr room → IsWidth width
    → load_wait bus core addr room ≡ None
    → HasLoaded bus (after_load bus core addr offset width room) core addr offset width (load_violates bus core addr)
load-loaded bus core addr offset width room h may widths goes =
    record {
      shape = t.shape;
      length = t.length;
      coherent = t.coherent;
      others = t.others;
      attempt = t.attempt;
      masks =
          λ a aligned x. by_line (λ (a : ℕ). a % bus.line_length ≡ 0 → has (own new core a).marks.bytes x ≡ has (own bus core a).marks.bytes x) addr a
          (λ _. ap (λ (marks : Marks). has marks.bytes x) t.marks_are ∙ same_mask x)
          (λ e a_aligned. ap (λ (mask : ℕ). has mask x) (t.elsewhere a a_aligned e).bytes) aligned;
      sees_is =
          taken-sees bus new core addr (load_next bus core addr offset width).marks (load_violates bus core addr) h t may.aligned
          (λ x e. sym (same_mask x) ∙ e);
      still =
          λ a aligned. by_line (λ (a : ℕ). a % bus.line_length ≡ 0 → (own bus core a).marks.loaded ≡ true → (own new core a).marks.loaded ≡ true) addr a
          (λ _ was. ap (λ (marks : Marks). marks.loaded) t.marks_are ∙ ap (λ (marks : Marks). marks.loaded) marks
          ∙ or_left (marks_of mine.state mine.marks).loaded _ (carried-loaded mine (committed bus addr) up ∙ was))
          (λ e a_aligned was. (t.elsewhere a a_aligned e).loaded ∙ was) aligned;
      read =
          λ x within out. ap (λ (marks : Marks). marks.loaded) t.marks_are
          ∙ own_load-read mine.state mine.marks offset width alone x within (same_mask x ∙ out);
      only =
          λ a aligned now was.
          by_line (λ (a : ℕ). a % bus.line_length ≡ 0 → (own new core a).marks.loaded ≡ true → (own bus core a).marks.loaded ≡ false
          → (addr ≡ a) × IsOutside (own bus core addr).marks.bytes offset width) addr a
          (λ _ now was. (refl, outside now was))
          (λ e a_aligned now was. absurd (both_ways (own new core a).marks.loaded ((t.elsewhere a a_aligned e).loaded ∙ was) now)) aligned now was;
    }
  where
    new : Bus
    new = after_load bus core addr offset width room

    t : HasTaken bus (after_load bus core addr offset width room) core addr (load_next bus core addr offset width).marks (load_violates bus core addr)
    t = load-taken bus core addr offset width room h may widths goes

    mine : LineCopy
    mine = own bus core addr

    alone : Bool
    alone = is_alone bus (message_of bus Load core addr)

    up : IsUpToDate (own bus core addr) (committed bus addr)
    up = (h.lines addr may.aligned).up_to_date core

    marks : (load_next bus core addr offset width).marks ≡ marks_after_load (marks_of (own bus core addr).state (own bus core addr).marks) offset width
    marks = own_load-marks mine.state mine.marks offset width alone

    same_mask : (x : ℕ) → has (load_next bus core addr offset width).marks.bytes x ≡ has (own bus core addr).marks.bytes x
    same_mask x = ap (λ (marks : Marks). has marks.bytes x) marks ∙ ap (λ (mask : ℕ). has mask x) (carried-bytes mine (committed bus addr) up)

    -- the mask that the copy carries has not all bytes of the access
    outside : (own new core addr).marks.loaded ≡ true → (own bus core addr).marks.loaded ≡ false
        → IsOutside (own bus core addr).marks.bytes offset width
    outside now was =
        is-outside mine.marks.bytes offset width
        (ap (λ (mask : ℕ). has_all mask offset width) (sym (carried-bytes mine (committed bus addr) up))
        ∙ or_not (marks_of mine.state mine.marks).loaded (has_all (marks_of mine.state mine.marks).bytes offset width)
        (sym (ap (λ (marks : Marks). marks.loaded) t.marks_are ∙ ap (λ (marks : Marks). marks.loaded) marks) ∙ now)
        (carried-loaded mine (committed bus addr) up ∙ was))

-- whom a load violates
load-crowded : (bus : Bus) (core address k : ℕ) → IsCoherent bus → load_violates bus core (line_of bus.line_length address) k ≡ true
    → IsCrowded (view_of bus) k address
load-crowded bus core address k h hit =
    let addr : ℕ = line_at bus address in
    load-crowds bus (message_of bus Load core addr) k address h refl refl
    (in_case (holds_line bus core addr) (violates bus (message_of bus Load core addr) k) hit)

-- a byte of the access, by its place in the line
takes-in : (bus : Bus) (core address width a : ℕ) → IsCoherent bus → LiesInLine bus.line_length bus.shape.size address width
    → line_at bus address ≡ line_at bus a → IsOutside (own bus core (line_at bus address)).marks.bytes (place_at bus address) width
    → TakesIn (view_of bus) core address width a
takes-in bus core address width a h lies same outside =
    let addr : ℕ = line_at bus address in
    let inside : outside.at < bus.line_length = before (place_at bus address) outside.at outside.within lies.ends in
    let line : line_of bus.line_length (addr + outside.at) ≡ addr = line-of bus.line_length addr outside.at h.length_is (aligned_at bus h address) inside in
    let place : offset_of bus.line_length (addr + outside.at) ≡ outside.at = offset-of bus.line_length addr outside.at h.length_is (aligned_at bus h address) inside in
    record {
      at = addr + outside.at;
      accessed =
          accessed-line bus.line_length bus.shape.size address width (addr + outside.at) lies
          ∙ rw (line, place, itself addr) outside.within;
      in_line = line-viewed bus h (addr + outside.at) ∙ line ∙ same ∙ sym (line-viewed bus h a);
      outside = own-line bus core addr outside.at h (aligned_at bus h address) inside ∙ outside.out;
      itself = λ none. absurd (true≢false none);
    }
  where
    before : (offset x : ℕ) → is_within offset width x ≡ true → offset + width ≤ bus.line_length → x < bus.line_length
    before offset x within ends = grind (arith, nat_tests)

-- a load that is answered with what the core sees
pub load-loads : (bus : Bus) (core address width value : ℕ) (room : Option Room) (hurt : ℕ → Bool) → IsCoherent bus
    → Runs (view_of bus) core false → IsLoad bus.shape address width → IsRoom (bus.core core) room
    → load_wait bus core (line_of bus.line_length address) room ≡ None
    → value ≡ number_at (sees bus core (line_of bus.line_length address)) (offset_of bus.line_length address) width → value < 256 ^ width
    → ((k : ℕ) → hurt k ≡ load_violates bus core (line_of bus.line_length address) k)
    → Loads (view_of bus) (view_of (after_load bus core (line_of bus.line_length address) (offset_of bus.line_length address) width room))
    core address width value hurt
load-loads bus core address width value room hurt h runs access victim goes is small are =
    let addr : ℕ = line_at bus address in
    let offset : ℕ = place_at bus address in
    let new : Bus = after_load bus core addr offset width room in
    let lies = load-lies bus address width h access in
    let t = load-loaded bus core addr offset width room h (may-access bus core address width room h runs access victim) access.wide goes in
    record {
      shape = t.shape;
      cached = refl;
      others = hurts-same (view_of bus) (view_of new) core hurt (load_violates bus core addr) are t.others;
      committed = with-committed bus new h t.length t.coherent;
      value_is = is ∙ number-line bus.line_length bus.shape.size address width (sees bus core) lies;
      small = small;
      attempt = t.attempt;
      own = λ a. own_at bus new t.length core a ∙ t.masks (line_at bus a) (aligned_at bus h a) (place_at bus a);
      sees = λ a. sees_at bus new t.length core a ∙ t.sees_is (line_at bus a) (aligned_at bus h a) (place_at bus a);
      guards =
          λ a accessed out.
          let at = accessed-there bus.line_length bus.shape.size address width a lies accessed in
          guarded_at bus new t.length core a
          ∙ subst (λ (line : ℕ). has (own bus core line).marks.bytes (place_at bus a) ≡ false → (own new core line).marks.loaded ≡ true) at.0
          (t.read (place_at bus a) at.1) out;
      guards_still = λ a was. guarded_at bus new t.length core a ∙ t.still (line_at bus a) (aligned_at bus h a) was;
      guards_only =
          λ a now was.
          let why = t.only (line_at bus a) (aligned_at bus h a) (sym (guarded_at bus new t.length core a) ∙ now) was in
          takes-in bus core address width a h lies why.0 why.1;
      crowded = λ k hit. load-crowded bus core address k h (sym (are k) ∙ hit);
    }
