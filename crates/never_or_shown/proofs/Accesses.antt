-- What the speculative accesses of a core make of a bus, where they can violate nobody.
use Rattle.std.proofs.Common.{◌≡◌, ◌≢◌, ℕ, ◌==◌, ◌||◌, nat_lt, Bool, true, false, cond, Option, refl, sym, ap, subst, ◌∙◌, inl, inr, arith}
use Rattle.std.proofs.lemmas.Bool.{both_ways, cases_Bool}
use Rattle.std.proofs.lemmas.Bool.Decides.{nat_tests}
use Rattle.memory_bytes.specs.Bytes.{IsWidth}
use Rattle.memory_bytes.proofs.SmallFacts.{none_enters, or_not}
use Rattle.spec_states.specs.declared.line.LineState.{LineState}
use Rattle.spec_states.specs.declared.line.Marks.{Marks}
use Rattle.spec_states.specs.declared.next.Next.{Next}
use Rattle.spec_states.specs.Copies.{LineCopy, copy_of}
use Rattle.spec_states.specs.Mask.{has, has_all, is_within}
use Rattle.spec_states.specs.States.{is_valid, is_speculative}
use Rattle.spec_states.specs.Tables.{is_written, marks_of, own_load, own_store}
use Rattle.spec_states.proofs.CopyLaws.{own_load-keeps, own_load-filled, own_load-marks, own_store-keeps, own_store-filled, own_store-marks, own_store-mask}
use Rattle.spec_states.proofs.RowLaws.{own_load-takes_hold, own_load-enters_none, own_store-takes_hold, speculative-valid}
use Rattle.violations.specs.declared.attempt.Attempt.{Attempt}
use Rattle.violations.specs.View.{epoch_of}
use Rattle.bus_states.specs.declared.notice.Notice.{Notice}
use Rattle.bus_states.specs.Attempts.{with_core}
use Rattle.bus_states.specs.Bus.{CoreState, Bus}
use Rattle.bus_states.specs.Coherent.{speculates}
use Rattle.bus_states.specs.Messages.{IsRoom, Message, Room, after_message, changed_core, heard_core, leaves, with_copy, without_line}
use Rattle.bus_states.proofs.Copies.{itself, made, made-required, made-state}
use Rattle.bus_states.proofs.Cores.{entry-limit}
use Rattle.bus_states.proofs.Sending.{leaves-held}
use Rattle.never_or_shown.proofs.Tidy.{IsRight, IsTidy, IsChange, Stays, as_copy, from_copy, no_bytes, changed-tidy, changed-masks, made-fit, made-mask, with_copy-tidy, with_copy-masks, without_line-tidy, without_line-masks, carried-loaded, carried-written, carried-mask, stays-same}
use Rattle.never_or_shown.proofs.Messages.{MayHear, heard-stays}

-- ---- buses

abbrev pub attempts : Bus → ℕ → Option Attempt
attempts bus k = (bus.core k).attempt

abbrev pub limits : Bus → ℕ → ℕ
limits bus k = (bus.core k).buffer.limit

abbrev pub epoch_on : Bus → ℕ → ℕ
epoch_on bus k = epoch_of (bus.core k).attempt

-- which lines the path of each epoch reads and stores in, and which are shared
abbrev pub OfEpochs : Type 1
OfEpochs = ℕ → ℕ → Type 0

abbrev pub AreTidy : OfEpochs → OfEpochs → OfEpochs → Bus → Type 0
AreTidy R W H bus = (k : ℕ) → IsTidy (R (epoch_on bus k)) (W (epoch_on bus k)) (H (epoch_on bus k)) (bus.core k)

abbrev pub OthersTidy : OfEpochs → OfEpochs → OfEpochs → Bus → ℕ → Type 0
OthersTidy R W H bus by = (k : ℕ) → k ≢ by → IsTidy (R (epoch_on bus k)) (W (epoch_on bus k)) (H (epoch_on bus k)) (bus.core k)

abbrev pub StaysOn : OfEpochs → OfEpochs → OfEpochs → Bus → Bus → ℕ → Type 0
StaysOn R W H old new k = Stays (R (epoch_on old k)) (W (epoch_on old k)) (H (epoch_on old k)) (old.core k) (new.core k)

-- a core may tell the others of a line
pub record MayTell (R W H : OfEpochs) (attempt : ℕ → Option Attempt) (limit_of : ℕ → ℕ) (by : ℕ) (notice : Notice) (addr limit : ℕ) : Type 0 where
  pub hear : (k : ℕ) → k ≢ by → speculates (attempt k) ≡ true
      → MayHear (R (epoch_of (attempt k))) (W (epoch_of (attempt k))) (H (epoch_of (attempt k))) notice addr (nat_lt (epoch_of (attempt by)) (epoch_of (attempt k))) limit
  pub limits_are : (k : ℕ) → speculates (attempt k) ≡ true → limit_of k ≡ limit

-- the other cores stay in order
pub record Beside (R W H : OfEpochs) (old new : Bus) (by : ℕ) : Type 0 where
  pub shape : new.shape ≡ old.shape
  pub length : new.line_length ≡ old.line_length
  pub others : (k : ℕ) → k ≢ by → StaysOn R W H old new k

-- every core does
pub record Goes (R W H : OfEpochs) (old new : Bus) : Type 0 where
  pub shape : new.shape ≡ old.shape
  pub length : new.line_length ≡ old.line_length
  pub core : (k : ℕ) → StaysOn R W H old new k

pub at_core : (P : ℕ → CoreState → Type 0) (by k : ℕ) (x : CoreState) (f : ℕ → CoreState) → P by x → (k ≢ by → P k (f k)) → P k (cond (k == by) x (f k))
at_core P by k x f here there =
    elim (k == by) as (λ b. (k == by) ≡ b → P k (cond b x (f k))) [
      | true ↦ λ e. let same : k ≡ by = grind (arith, nat_tests) in subst (λ (n : ℕ). P n x) (sym same) here
      | false ↦ λ e. let away : k ≢ by = grind (arith, nat_tests) in there away
    ] refl

pub by_itself : (P : CoreState → Type 0) (by : ℕ) (x y : CoreState) → P x → P (cond (by == by) x y)
by_itself P by x y here = subst (λ b. P (cond b x y)) (sym (itself by)) here

pub by_other : (P : CoreState → Type 0) (by k : ℕ) (x y : CoreState) → k ≢ by → P y → P (cond (k == by) x y)
by_other P by k x y away there =
    elim (k == by) as (λ b. (k == by) ≡ b → P (cond b x y)) [
      | true ↦ λ e. let same : k ≡ by = grind (arith, nat_tests) in absurd (away same)
      | false ↦ λ e. there
    ] refl

-- ---- messages

module _ (R W H : OfEpochs) (bus : Bus) (message : Message) (h : OthersTidy R W H bus message.sender) (limit : ℕ)
    (may : MayTell R W H (attempts bus) (limits bus) message.sender message.notice message.addr limit) where
  pub hears : (k : ℕ) → k ≢ message.sender → Stays (R (epoch_on bus k)) (W (epoch_on bus k)) (H (epoch_on bus k)) (bus.core k) (heard_core bus message k)
  hears k away = heard-stays (R (epoch_on bus k)) (W (epoch_on bus k)) (H (epoch_on bus k)) bus message k limit (h k away) (may.hear k away) (may.limits_are k)

  pub message-beside : (room : Option Room) (next : Next) → Beside R W H bus (after_message bus message room next) message.sender
  message-beside room next = record {
    shape = refl;
    length = refl;
    others = λ k away. by_other (λ c. Stays (R (epoch_on bus k)) (W (epoch_on bus k)) (H (epoch_on bus k)) (bus.core k) c) message.sender k
        (changed_core message.addr next message.line (without_line message.addr room (bus.core message.sender))) (heard_core bus message k) away (hears k away);
  }

  pub message-goes : (room : Option Room) (next : Next)
      → Stays (R (epoch_on bus message.sender)) (W (epoch_on bus message.sender)) (H (epoch_on bus message.sender)) (bus.core message.sender)
      (changed_core message.addr next message.line (without_line message.addr room (bus.core message.sender))) → Goes R W H bus (after_message bus message room next)
  message-goes room next mine = record {
    shape = refl;
    length = refl;
    core = λ k. at_core (λ n c. Stays (R (epoch_on bus n)) (W (epoch_on bus n)) (H (epoch_on bus n)) (bus.core n) c) message.sender k
        (changed_core message.addr next message.line (without_line message.addr room (bus.core message.sender))) (heard_core bus message) mine (hears k);
  }

-- a core changes and nobody is told
pub alone-goes : (R W H : OfEpochs) (bus new : Bus) (by : ℕ) (state : CoreState) → AreTidy R W H bus → new.shape ≡ bus.shape → new.line_length ≡ bus.line_length
    → new.core ≡ (with_core by state bus).core → Stays (R (epoch_on bus by)) (W (epoch_on bus by)) (H (epoch_on bus by)) (bus.core by) state → Goes R W H bus new
alone-goes R W H bus new by state h shape length same mine = record {
  shape = shape;
  length = length;
  core = λ k. subst (λ (cores : ℕ → CoreState). Stays (R (epoch_on bus k)) (W (epoch_on bus k)) (H (epoch_on bus k)) (bus.core k) (cores k)) (sym same)
      (at_core (λ n c. Stays (R (epoch_on bus n)) (W (epoch_on bus n)) (H (epoch_on bus n)) (bus.core n) c) by k state bus.core mine
      (λ away. stays-same (R (epoch_on bus k)) (W (epoch_on bus k)) (H (epoch_on bus k)) (bus.core k) (h k)));
}

-- ---- the core's own copy

module _ (R W H : ℕ → Type 0) (core : CoreState) (h : IsTidy R W H core) (addr : ℕ) (next : Next)
    (change : IsChange (R addr) (W addr) (H addr) core.attempt (core.copy addr) next)
    (mask : (x : ℕ) → has (core.copy addr).marks.bytes x ≡ true → (is_valid next.state ≡ true) × (has next.marks.bytes x ≡ true)) where
  -- it takes the room of a line that leaves
  pub takes-stays : (room : Option Room) (cell : ℕ → ℕ) → IsRoom core room → leaves room addr ≡ false → Stays R W H core (changed_core addr next cell (without_line addr room core))
  takes-stays room cell is apart =
      let clear : (a : ℕ) → leaves room a ≡ true → is_speculative (core.copy a).state ≡ false = λ a e. (leaves-held core room is a e).1 in
      let there : (without_line addr room core).copy addr ≡ core.copy addr = rw apart refl in
      record {
        tidy = changed-tidy R W H (without_line addr room core) (without_line-tidy R W H core h addr room clear) addr next cell
            (subst (λ (c : LineCopy). IsChange (R addr) (W addr) (H addr) core.attempt c next) (sym there) change);
        masks = λ a x had. changed-masks (without_line addr room core) addr next cell
            (subst (λ (c : LineCopy). (x : ℕ) → has c.marks.bytes x ≡ true → (is_valid next.state ≡ true) × (has next.marks.bytes x ≡ true)) (sym there) mask)
            a x (without_line-masks R W H core h addr room clear a x had);
        attempt = refl;
        limit = entry-limit next.enters addr core.buffer;
      }

  -- it stays where it was, and in the buffer or out of it
  pub keeps-stays : (cell : ℕ → ℕ) → next.enters ≡ false → Stays R W H core (with_copy addr (made next.state next.marks cell) core)
  keeps-stays cell none = record {
    tidy = with_copy-tidy R W H core h addr (made next.state next.marks cell) (made-fit (R addr) (W addr) next.state next.marks cell change.fit)
        (made-required next.state next.marks cell ∙ none_enters next.enters _ _ change.enters none change.stays_required)
        (λ quiet. ap is_speculative (made-state next.state next.marks cell) ∙ change.unmarked quiet);
    masks = with_copy-masks core addr (made next.state next.marks cell) (λ x had. let kept = mask x had in made-mask next.state next.marks cell x kept.0 kept.1);
    attempt = refl;
    limit = refl;
  }

module _ (R W H : ℕ → Type 0) (core : CoreState) (h : IsTidy R W H core) (addr offset width : ℕ) (wide : IsWidth width) (alone : Bool) (runs : speculates core.attempt ≡ true) where
  abbrev state : LineState
  state = (core.copy addr).state

  abbrev marks : Marks
  marks = (core.copy addr).marks

  abbrev loads : Next
  loads = own_load (core.copy addr).state (core.copy addr).marks offset width alone

  abbrev stores : Next
  stores = own_store (core.copy addr).state (core.copy addr).marks offset width alone

  right : IsRight state marks
  right = (h.fit addr).right

  load-right : IsRight loads.state loads.marks
  load-right = elim (cases_Bool (is_valid state)) [
    | inl held ↦ from_copy (copy_of loads.state loads.marks no_bytes) no_bytes (own_load-keeps state marks offset width alone wide held no_bytes no_bytes (as_copy state marks right))
    | inr out ↦ from_copy (copy_of loads.state loads.marks no_bytes) no_bytes (own_load-filled state marks offset width alone wide out no_bytes)
  ]

  pub load-change : (has_all (marks_of state marks).bytes offset width ≡ false → R addr) → IsChange (R addr) (W addr) (H addr) core.attempt (core.copy addr) loads
  load-change reads =
      let row = own_load-takes_hold state marks offset width alone in
      let after = own_load-marks state marks offset width alone in record {
        enters = row.enters;
        stays_required = row.stays_required;
        fit = record {
          right = load-right;
          read = λ is. elim (cases_Bool (marks_of state marks).loaded) [
            | inl was ↦ (h.fit addr).read (carried-loaded state marks was)
            | inr out ↦ reads (or_not (marks_of state marks).loaded (has_all (marks_of state marks).bytes offset width) (subst (λ (m : Marks). m.loaded ≡ true) after is) out)
          ];
          written = λ is. (h.fit addr).written (carried-written state marks (subst (λ (m : Marks). is_written m ≡ true) after is)).1;
        };
        entered = λ is. absurd (both_ways loads.enters (own_load-enters_none state marks offset width alone) is);
        unmarked = λ quiet. absurd (both_ways (speculates core.attempt) quiet runs);
      }

  pub load-mask : (x : ℕ) → has marks.bytes x ≡ true → (is_valid loads.state ≡ true) × (has loads.marks.bytes x ≡ true)
  load-mask x had = (
    speculative-valid loads.state (own_load-takes_hold state marks offset width alone).marked,
    subst (λ (m : Marks). has m.bytes x ≡ true) (sym (own_load-marks state marks offset width alone)) (carried-mask state marks x right had),
  )

  store-right : IsRight stores.state stores.marks
  store-right = elim (cases_Bool (is_valid state)) [
    | inl held ↦ from_copy (copy_of stores.state stores.marks no_bytes) no_bytes
        (own_store-keeps state marks offset width alone wide held no_bytes no_bytes no_bytes (as_copy state marks right) (λ x out. refl))
    | inr gone ↦ from_copy (copy_of stores.state stores.marks no_bytes) no_bytes (own_store-filled state marks offset width alone wide gone no_bytes no_bytes (λ x out. refl))
  ]

  pub store-change : W addr → (stores.enters ≡ true → H addr) → IsChange (R addr) (W addr) (H addr) core.attempt (core.copy addr) stores
  store-change writes enters =
      let row = own_store-takes_hold state marks offset width alone wide in
      let after = own_store-marks state marks offset width alone in record {
        enters = row.enters;
        stays_required = row.stays_required;
        fit = record {
          right = store-right;
          read = λ is. (h.fit addr).read (carried-loaded state marks (subst (λ (m : Marks). m.loaded ≡ true) after is));
          written = λ is. writes;
        };
        entered = enters;
        unmarked = λ quiet. absurd (both_ways (speculates core.attempt) quiet runs);
      }

  pub store-mask : (x : ℕ) → has marks.bytes x ≡ true → (is_valid stores.state ≡ true) × (has stores.marks.bytes x ≡ true)
  store-mask x had = (
    speculative-valid stores.state (own_store-takes_hold state marks offset width alone wide).marked,
    own_store-mask state marks offset width alone x ∙ ap (λ b. b || is_within offset width x) (carried-mask state marks x right had),
  )
