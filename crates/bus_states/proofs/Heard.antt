-- A core that hears a message.
use Rattle.std.proofs.Common.{◌≡◌, ◌≢◌, ℕ, ◌%◌, ◌<◌, ◌≤◌, ◌==◌, ◌||◌, ◌&&◌, not, nat_lt, Bool, true, false, cond, refl, sym, ap, subst, ◌∙◌, arith, ne_eqb}
use Rattle.std.proofs.Math.Path.{fun_ext}
use Rattle.std.proofs.lemmas.Bool.Decides.{nat_tests}
use Rattle.spec_states.specs.declared.next.Next.{Next}
use Rattle.spec_states.specs.declared.next.Order.{Order}
use Rattle.spec_states.specs.declared.next.Order.TheVariants.{Earlier, Later}
use Rattle.spec_states.specs.Copies.{LineCopy, copy_of, no_copy, IsUpToDate}
use Rattle.spec_states.specs.Mask.{has, IsWithinLine}
use Rattle.spec_states.specs.Rows.{GivesWay}
use Rattle.spec_states.specs.States.{is_valid, is_exclusive, is_modified}
use Rattle.spec_states.proofs.CopyLaws.{IsUpToDate-gone}
use Rattle.cache_lines.specs.Protocol.{IsInPlace}
use Rattle.orb.specs.Lines.{is_full}
use Rattle.bus_states.specs.declared.notice.Notice.{Notice}
use Rattle.bus_states.specs.declared.notice.Notice.TheVariants.{Load, Store, Publish}
use Rattle.bus_states.specs.Bus.{CoreState, Bus, no_core, is_later}
use Rattle.bus_states.specs.Coherent.{IsCoherent, IsCoherentCore}
use Rattle.bus_states.specs.Messages.{Message, with_copies, with_copy, dropped_core, changed_core, reply, reply_to, order, bytes_after, violates, holds_up, heard_core, is_busy}
use Rattle.bus_states.proofs.Copies.{itself, made, made-state, made-up_to_date, none-in_place, made-in_place, rolled_back-valid, rolled_back-modified, rolled_back-in_place, Fades, Fades-same, Fades-rolled_back}
use Rattle.bus_states.proofs.Cores.{entry-limit, changed-coherent, violated-coherent}
use Rattle.bus_states.proofs.Coherence.{none_below}
use Rattle.bus_states.proofs.Replies.{reply-gives_way, reply-within}

-- a core that hears of the line at `addr`, and is violated or changes its copy so
abbrev pub heard : ℕ → Bool → Next → (ℕ → ℕ) → CoreState → CoreState
heard addr violated next cell core =
    cond violated (with_copy addr no_copy (dropped_core core)) (changed_core addr next cell core)

pub heard-length : (core : CoreState) (addr : ℕ) (v : Bool) (next : Next) (cell : ℕ → ℕ)
    → (heard addr v next cell core).line_length ≡ core.line_length
heard-length core addr true next cell = refl
heard-length core addr false next cell = refl

pub heard-geometry : (core : CoreState) (addr : ℕ) (v : Bool) (next : Next) (cell : ℕ → ℕ)
    → (heard addr v next cell core).geometry ≡ core.geometry
heard-geometry core addr true next cell = refl
heard-geometry core addr false next cell = refl

-- so many lines as its buffer took
pub heard-limit : (core : CoreState) (addr : ℕ) (v : Bool) (next : Next) (cell : ℕ → ℕ)
    → (heard addr v next cell core).buffer.limit ≡ core.buffer.limit
heard-limit core addr true next cell = refl
heard-limit core addr false next cell = entry-limit next.enters addr core.buffer

-- ---- its copy of the message's line

pub here-up_to_date : (core : CoreState) (addr : ℕ) (v : Bool) (next : Next) (cell c : ℕ → ℕ)
    → IsUpToDate (copy_of next.state next.marks cell) c → IsUpToDate ((heard addr v next cell core).copy addr) c
here-up_to_date core addr true next cell c h = rw (itself addr) (IsUpToDate-gone (λ _. 0) c)
here-up_to_date core addr false next cell c h = rw (itself addr) (made-up_to_date next.state next.marks cell c h)

pub here-shared : (core : CoreState) (addr : ℕ) (v : Bool) (next : Next) (cell : ℕ → ℕ)
    → is_exclusive next.state ≡ false → is_exclusive ((heard addr v next cell core).copy addr).state ≡ false
here-shared core addr true next cell e = rw (itself addr) refl
here-shared core addr false next cell e = rw (itself addr) (ap is_exclusive (made-state next.state next.marks cell) ∙ e)

pub here-invalid : (core : CoreState) (addr : ℕ) (v : Bool) (next : Next) (cell : ℕ → ℕ)
    → (not v && is_valid next.state) ≡ false → is_valid ((heard addr v next cell core).copy addr).state ≡ false
here-invalid core addr true next cell e = rw (itself addr) refl
here-invalid core addr false next cell e = rw (itself addr) (ap is_valid (made-state next.state next.marks cell) ∙ e)

-- ---- its copy of another line

pub elsewhere-fades : (core : CoreState) (addr a : ℕ) (v : Bool) (next : Next) (cell c : ℕ → ℕ) → (addr == a) ≡ false
    → IsUpToDate (core.copy a) c → Fades (core.copy a) ((heard addr v next cell core).copy a) c
elsewhere-fades core addr a true next cell c e h = rw e (Fades-rolled_back (core.copy a) c h)
elsewhere-fades core addr a false next cell c e h = rw e (Fades-same (core.copy a) c h)

pub elsewhere-modified : (core : CoreState) (addr a : ℕ) (v : Bool) (next : Next) (cell : ℕ → ℕ) → (addr == a) ≡ false
    → is_modified ((heard addr v next cell core).copy a).state ≡ is_modified (core.copy a).state
elsewhere-modified core addr a true next cell e = rw e (rolled_back-modified (core.copy a))
elsewhere-modified core addr a false next cell e = rw e refl

pub elsewhere-valid : (core : CoreState) (addr a : ℕ) (v : Bool) (next : Next) (cell : ℕ → ℕ) → (addr == a) ≡ false
    → is_valid ((heard addr v next cell core).copy a).state ≡ true → is_valid (core.copy a).state ≡ true
elsewhere-valid core addr a true next cell e = rw e (rolled_back-valid (core.copy a))
elsewhere-valid core addr a false next cell e = rw e (λ v. v)

-- ---- any copy, in its place

pub heard-in_place : (length addr : ℕ) (core : CoreState) (v : Bool) (next : Next) (cell : ℕ → ℕ)
    → ((a : ℕ) → IsInPlace length a (core.copy a)) → addr % length ≡ 0 → IsWithinLine length next.marks.bytes
    → ((x : ℕ) → length ≤ x → cell x ≡ 0) → (a : ℕ) → IsInPlace length a ((heard addr v next cell core).copy a)
heard-in_place length addr core true next cell h aligned mask past a = pick (addr == a)
  where
    pick : (b : Bool) → IsInPlace length a (cond b no_copy ((dropped_core core).copy a))
    pick true = none-in_place length a
    pick false = rolled_back-in_place length a (core.copy a) (h a)
heard-in_place length addr core false next cell h aligned mask past a =
    elim (addr == a) as (λ b. (addr == a) ≡ b → IsInPlace length a (cond b (made next.state next.marks cell) (core.copy a))) [
      | true ↦ λ e.
          let at : addr ≡ a = grind (arith, nat_tests) in
          made-in_place length a next.state next.marks cell (λ _. subst (λ (a : ℕ). a % length ≡ 0) at aligned) mask past
      | false ↦ λ e. h a
    ] refl

-- ---- the whole core

pub heard-coherent : (core : CoreState) (addr : ℕ) (v : Bool) (next : Next) (cell : ℕ → ℕ) → IsCoherentCore core
    → GivesWay (core.copy addr).state (core.copy addr).marks next → (v ≡ false → next.violated ≡ false)
    → (v ≡ false → (next.enters && is_full core.buffer) ≡ false) → IsCoherentCore (heard addr v next cell core)
heard-coherent core addr true next cell h g unviolated room = violated-coherent core addr h
heard-coherent core addr false next cell h g unviolated room =
    changed-coherent core addr next cell h
    (record {
      enters = g.enters;
      stays_required = g.stays_required (unviolated refl);
      has_room = room refl;
      unmarked = λ s. g.unmarked (h.unmarked addr s);
    })

-- a core that isn't there
made-none : (b : Bool) (copy : LineCopy) → copy ≡ no_copy → cond b copy no_copy ≡ no_copy
made-none true copy e = e
made-none false copy e = refl

absent-core : (addr : ℕ) (v : Bool) (next : Next) (cell : ℕ → ℕ) → v ≡ false → is_valid next.state ≡ false
    → next.enters ≡ false → heard addr v next cell no_core ≡ no_core
absent-core addr v next cell e f g =
    rw (e, f, g) (ap (λ (copies : ℕ → LineCopy). with_copies copies no_core) (fun_ext (λ a. made-none (addr == a) no_copy refl)))

-- ---- in a message

pub message-gives_way : (bus : Bus) (message : Message) (k : ℕ) → IsCoherent bus → message.addr % bus.line_length ≡ 0
    → GivesWay ((bus.core k).copy message.addr).state ((bus.core k).copy message.addr).marks (reply bus message k)
message-gives_way bus message k h aligned =
    reply-gives_way message.notice ((bus.core k).copy message.addr).state ((bus.core k).copy message.addr).marks
    (order (is_later bus message.sender k)) ((h.lines message.addr aligned).up_to_date k).marked

none-reply : (notice : Notice) (owner : Order) (next : Next) → next ≡ reply_to notice no_copy.state no_copy.marks owner
    → (is_valid next.state ≡ false) × (next.enters ≡ false) × (next.violated ≡ false)
none-reply Load owner next e = rw e (refl, refl, refl)
none-reply Store owner next e = pick owner e
  where
    pick : (owner : Order) → next ≡ reply_to Store no_copy.state no_copy.marks owner
        → (is_valid next.state ≡ false) × (next.enters ≡ false) × (next.violated ≡ false)
    pick Earlier e = rw e (refl, refl, refl)
    pick Later e = rw e (refl, refl, refl)
none-reply Publish owner next e = rw e (refl, refl, refl)

none-violated : (same hit enters full later : Bool) → hit ≡ false → enters ≡ false
    → (not same && (hit || ((enters && full) && later))) ≡ false
none-violated same hit enters full later e f = grind (arith, nat_tests)

none-here : (bus : Bus) (message : Message) (k : ℕ) → bus.core k ≡ no_core
    → (is_valid (reply bus message k).state ≡ false) × ((reply bus message k).enters ≡ false) × ((reply bus message k).violated ≡ false)
none-here bus message k e =
    none-reply message.notice (order (is_later bus message.sender k)) (reply bus message k)
    (ap (λ (core : CoreState). reply_to message.notice (core.copy message.addr).state (core.copy message.addr).marks (order (is_later bus message.sender k))) e)

-- nobody is violated there
pub absent-unviolated : (bus : Bus) (message : Message) (k : ℕ) → bus.core k ≡ no_core → violates bus message k ≡ false
absent-unviolated bus message k e =
    let r = none-here bus message k e in
    none-violated (k == message.sender) _ _ (is_full (bus.core k).buffer) (is_later bus message.sender k) r.2 r.1

pub heard-absent : (bus : Bus) (message : Message) (k : ℕ) → bus.core k ≡ no_core → heard_core bus message k ≡ no_core
heard-absent bus message k e =
    let r = none-here bus message k e in
    ap (λ (core : CoreState). heard message.addr (violates bus message k) (reply bus message k) (bytes_after message.notice (reply bus message k).marks.bytes ((bus.core k).copy message.addr).cell message.line) core) e
    ∙ absent-core message.addr (violates bus message k) (reply bus message k) _ (absent-unviolated bus message k e) r.0 r.1

pub unviolated : (same hit over later : Bool) → same ≡ false → (not same && (hit || (over && later))) ≡ false → hit ≡ false
unviolated same hit over later e v = grind (arith, nat_tests)

pub roomy : (same hit over later : Bool) → same ≡ false → (not same && (hit || (over && later))) ≡ false
    → (not same && (over && not later)) ≡ false → over ≡ false
roomy same hit over later e v w = grind (arith, nat_tests)

-- a core that is no other's own, after a message that nobody holds up
pub message-coherent : (bus : Bus) (message : Message) (k : ℕ) → IsCoherent bus → message.addr % bus.line_length ≡ 0
    → is_busy bus message ≡ false → k ≢ message.sender → IsCoherentCore (heard_core bus message k)
message-coherent bus message k h aligned free away =
    elim (nat_lt k bus.shape.cores) as (λ b. nat_lt k bus.shape.cores ≡ b → IsCoherentCore (heard_core bus message k)) [
      | true ↦ λ e.
          let inside : k < bus.shape.cores = grind (arith, nat_tests) in
          heard-coherent (bus.core k) message.addr (violates bus message k) (reply bus message k) _ (h.cores k) (message-gives_way bus message k h aligned)
          (λ v. unviolated (k == message.sender) _ _ (is_later bus message.sender k) (ne_eqb k message.sender away) v)
          (λ v. roomy (k == message.sender) (reply bus message k).violated _ (is_later bus message.sender k) (ne_eqb k message.sender away) v
          (none_below bus.shape.cores (holds_up bus message) free k inside))
      | false ↦ λ e.
          let past : bus.shape.cores ≤ k = grind (arith, nat_tests) in
          subst (λ (core : CoreState). IsCoherentCore core) (sym (heard-absent bus message k (h.absent k past)))
          (subst (λ (core : CoreState). IsCoherentCore core) (h.absent k past) (h.cores k))
    ] refl

pub merged-past : (notice : Notice) (mask : ℕ) (cell line : ℕ → ℕ) (x : ℕ) → cell x ≡ 0 → line x ≡ 0 → bytes_after notice mask cell line x ≡ 0
merged-past Load mask cell line x e f = e
merged-past Store mask cell line x e f = e
merged-past Publish mask cell line x e f = pick (has mask x)
  where
    pick : (b : Bool) → cond b (cell x) (line x) ≡ 0
    pick true = e
    pick false = f

-- each of its copies stays in its place
pub message-in_place : (bus : Bus) (message : Message) (k : ℕ) → IsCoherent bus → message.addr % bus.line_length ≡ 0
    → ((x : ℕ) → bus.line_length ≤ x → message.line x ≡ 0) → (a : ℕ)
    → IsInPlace bus.line_length a ((heard_core bus message k).copy a)
message-in_place bus message k h aligned past =
    heard-in_place bus.line_length message.addr (bus.core k) (violates bus message k) (reply bus message k)
    (bytes_after message.notice (reply bus message k).marks.bytes ((bus.core k).copy message.addr).cell message.line)
    (h.in_place k) aligned
    (reply-within message.notice ((bus.core k).copy message.addr).state ((bus.core k).copy message.addr).marks (order (is_later bus message.sender k)) bus.line_length (h.in_place k message.addr).mask)
    (λ x le. merged-past message.notice (reply bus message k).marks.bytes ((bus.core k).copy message.addr).cell message.line x ((h.in_place k message.addr).cells x le) (past x le))
