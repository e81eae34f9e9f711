-- What a core does without a message keeps the bus coherent: attempts begin and end, it marks lines that it holds, it stores to
-- lines that it owns.
use Rattle.std.proofs.Common.{◌≡◌, ◌≢◌, ℕ, ◌+◌, ◌%◌, ◌<◌, ◌≤◌, ◌==◌, ◌⊎◌, inl, Bool, true, false, cond, Option, Some, None, refl, sym, ap, subst, ◌∙◌, arith}
use Rattle.std.proofs.Math.Path.{fun_ext}
use Rattle.std.proofs.lemmas.Bool.{both_ways}
use Rattle.std.proofs.lemmas.Bool.Decides.{nat_tests}
use Rattle.spec_states.specs.declared.next.Next.{Next}
use Rattle.spec_states.specs.Copies.{LineCopy, copy_of, IsUpToDate}
use Rattle.spec_states.specs.Mask.{has, is_within, IsWithinLine}
use Rattle.spec_states.specs.Rows.{requires_ownership}
use Rattle.spec_states.specs.States.{is_valid, is_exclusive, is_modified, is_speculative}
use Rattle.spec_states.proofs.CopyLaws.{modified_is}
use Rattle.cache_lines.specs.Cells.{with_number}
use Rattle.cache_lines.specs.Protocol.{IsInPlace, changed_copy, copy_with_number}
use Rattle.cache_lines.proofs.CopyLaws.{IsUpToDate-rolled_back}
use Rattle.violations.specs.declared.attempt.Attempt.{Attempt}
use Rattle.cache_lines.proofs.Written.{number-past}
use Rattle.bus_states.specs.Bus.{CoreState, Bus, committed, memory_line}
use Rattle.bus_states.specs.Coherent.{IsCoherent, IsCoherentCore, speculates}
use Rattle.bus_states.specs.Messages.{with_copy, with_line, dropped_core}
use Rattle.bus_states.specs.Attempts.{after_begin, after_leave, after_cancel}
use Rattle.bus_states.specs.Speculative.{own, kept_line, with_bytes}
use Rattle.bus_states.proofs.Addresses.{with_line-here, with_line-elsewhere}
use Rattle.bus_states.proofs.Coherence.{IsCoherentWith, by_core}
use Rattle.bus_states.proofs.Copies.{made, made-state, made-up_to_date, made-in_place, made-required, rolled_back-valid, rolled_back-exclusive, rolled_back-modified, rolled_back-in_place}
use Rattle.bus_states.proofs.Cores.{with_copy-coherent, dropped-coherent}
use Rattle.bus_states.proofs.Quiet.{ChangesQuietly, quiet-with, Fades, fades-quietly}

-- ---- attempts

-- a core that changes its attempt alone
attempt-fades : (bus : Bus) (core : ℕ) (attempt : Option Attempt) → IsCoherent bus → core < bus.shape.cores
    → ((a : ℕ) → speculates attempt ≡ false → is_speculative ((bus.core core).copy a).state ≡ false)
    → Fades bus core (record (bus.core core) { attempt = attempt })
attempt-fades bus core attempt h inside unmarked =
    record {
      in_cores = inside;
      same_length = refl;
      same_geometry = refl;
      same_limit = refl;
      stays = record { listed = (h.cores core).listed; buffer = (h.cores core).buffer; unmarked = unmarked };
      in_place = h.in_place core;
      no_revival = λ a v. v;
      exclusive = λ a e. e;
      modified = λ a. refl;
      up_to_date = λ a aligned. (h.lines a aligned).up_to_date core;
    }

pub begin-with : (bus : Bus) (core epoch : ℕ) → IsCoherent bus → core < bus.shape.cores
    → IsCoherentWith (after_begin bus core epoch) (committed bus)
begin-with bus core epoch h inside =
    quiet-with bus core _ bus.memory (committed bus) h
    (fades-quietly bus core _ h (attempt-fades bus core (Some (record { epoch = epoch; straight = false })) h inside (λ a s. cc)))

pub leave-with : (bus : Bus) (core : ℕ) → IsCoherent bus → core < bus.shape.cores → speculates (bus.core core).attempt ≡ false
    → IsCoherentWith (after_leave bus core) (committed bus)
leave-with bus core h inside straight =
    quiet-with bus core _ bus.memory (committed bus) h
    (fades-quietly bus core _ h (attempt-fades bus core None h inside (λ a s. (h.cores core).unmarked a straight)))

pub cancel-with : (bus : Bus) (core : ℕ) → IsCoherent bus → core < bus.shape.cores
    → IsCoherentWith (after_cancel bus core) (committed bus)
cancel-with bus core h inside =
    quiet-with bus core (dropped_core (bus.core core)) bus.memory (committed bus) h
    (fades-quietly bus core (dropped_core (bus.core core)) h
    (record {
      in_cores = inside;
      same_length = refl;
      same_geometry = refl;
      same_limit = refl;
      stays = dropped-coherent (bus.core core) (h.cores core);
      in_place = λ a. rolled_back-in_place bus.line_length a ((bus.core core).copy a) (h.in_place core a);
      no_revival = λ a. rolled_back-valid ((bus.core core).copy a);
      exclusive = λ a. rolled_back-exclusive ((bus.core core).copy a);
      modified = λ a. rolled_back-modified ((bus.core core).copy a);
      up_to_date = λ a aligned. IsUpToDate-rolled_back ((bus.core core).copy a) (committed bus a) ((h.lines a aligned).up_to_date core);
    }))

-- ---- a copy that the core holds

-- one copy of the core changes, and its line is committed with these bytes then
pub record ChangesOne (bus : Bus) (core addr : ℕ) (copy : LineCopy) (memory c : ℕ → ℕ) : Type 0 where
  pub in_cores : core < bus.shape.cores
  pub held : is_valid ((bus.core core).copy addr).state ≡ true
  pub stays : IsCoherentCore (with_copy addr copy (bus.core core))
  pub in_place : IsInPlace bus.line_length addr copy
  pub exclusive : is_exclusive copy.state ≡ true → is_exclusive ((bus.core core).copy addr).state ≡ true
  pub up_to_date : IsUpToDate copy c
  pub same_line : (c ≡ committed bus addr) ⊎ (is_exclusive ((bus.core core).copy addr).state ≡ true)
  pub in_memory : is_modified copy.state ≡ false → ((k : ℕ) → k ≢ core → is_modified ((bus.core k).copy addr).state ≡ false)
      → (x : ℕ) → memory_line bus.line_length memory addr x ≡ c x
  pub elsewhere : (a : ℕ) → a % bus.line_length ≡ 0 → (addr == a) ≡ false
      → (x : ℕ) → memory_line bus.line_length memory a x ≡ memory_line bus.line_length bus.memory a x

abbrev pub one_line : Bus → ℕ → (ℕ → ℕ) → ℕ → ℕ → ℕ
one_line bus addr c a = cond (addr == a) c (committed bus a)

-- the copy at any address
by_addr : (P : ℕ → LineCopy → Type 0) (core : CoreState) (addr : ℕ) (copy : LineCopy) (a : ℕ) → P addr copy
    → ((addr == a) ≡ false → P a (core.copy a)) → P a ((with_copy addr copy core).copy a)
by_addr P core addr copy a here there =
    elim (addr == a) as (λ b. (addr == a) ≡ b → P a (cond b copy (core.copy a))) [
      | true ↦ λ e. let at : addr ≡ a = grind (arith, nat_tests) in subst (λ (a : ℕ). P a copy) at here
      | false ↦ λ e. there e
    ] refl

pub one-quietly : (bus : Bus) (core addr : ℕ) (copy : LineCopy) (memory c : ℕ → ℕ) → IsCoherent bus
    → ChangesOne bus core addr copy memory c
    → ChangesQuietly bus core (with_copy addr copy (bus.core core)) memory (one_line bus addr c)
one-quietly bus core addr copy memory c h t =
    record {
      in_cores = t.in_cores;
      same_length = refl;
      same_geometry = refl;
      same_limit = refl;
      stays = t.stays;
      in_place = λ a. by_addr (λ (a : ℕ) (copy : LineCopy). IsInPlace bus.line_length a copy) (bus.core core) addr copy a t.in_place (λ e. h.in_place core a);
      no_revival =
          λ a. by_addr (λ (a : ℕ) (copy : LineCopy). is_valid copy.state ≡ true → is_valid ((bus.core core).copy a).state ≡ true) (bus.core core) addr copy a
          (λ v. t.held) (λ e v. v);
      exclusive =
          λ a. by_addr (λ (a : ℕ) (copy : LineCopy). is_exclusive copy.state ≡ true → is_exclusive ((bus.core core).copy a).state ≡ true) (bus.core core) addr copy a
          t.exclusive (λ e v. v);
      up_to_date =
          λ a aligned. elim (addr == a) as (λ b. (addr == a) ≡ b → IsUpToDate (cond b copy ((bus.core core).copy a)) (cond b c (committed bus a))) [
            | true ↦ λ e. t.up_to_date
            | false ↦ λ e. (h.lines a aligned).up_to_date core
          ] refl;
      same_line =
          λ a aligned. elim (addr == a) as (λ b. (addr == a) ≡ b → (cond b c (committed bus a) ≡ committed bus a) ⊎ (is_exclusive ((bus.core core).copy a).state ≡ true)) [
            | true ↦ λ e.
                let at : addr ≡ a = grind (arith, nat_tests) in
                subst (λ (a : ℕ). (c ≡ committed bus a) ⊎ (is_exclusive ((bus.core core).copy a).state ≡ true)) at t.same_line
            | false ↦ λ e. inl refl
          ] refl;
      in_memory =
          λ a aligned mine others x.
          elim (addr == a) as (λ b. (addr == a) ≡ b → is_modified (cond b copy ((bus.core core).copy a)).state ≡ false → memory_line bus.line_length memory a x ≡ cond b c (committed bus a) x) [
            | true ↦ λ e m.
                let at : addr ≡ a = grind (arith, nat_tests) in
                subst (λ (a : ℕ). memory_line bus.line_length memory a x ≡ c x) at
                (t.in_memory m (λ k away. subst (λ (a : ℕ). is_modified ((bus.core k).copy a).state ≡ false) (sym at) (others k away)) x)
            | false ↦ λ e m.
                t.elsewhere a aligned e x
                ∙ (h.lines a aligned).in_memory (λ k. by_core (λ (k : ℕ). is_modified ((bus.core k).copy a).state ≡ false) core k m (others k)) x
          ] refl mine;
    }

-- what is committed stays
same-line : (bus : Bus) (addr a : ℕ) (c : ℕ → ℕ) → c ≡ committed bus addr → one_line bus addr c a ≡ committed bus a
same-line bus addr a c same =
    elim (addr == a) as (λ b. (addr == a) ≡ b → cond b c (committed bus a) ≡ committed bus a) [
      | true ↦ λ e. let at : addr ≡ a = grind (arith, nat_tests) in same ∙ ap (committed bus) at
      | false ↦ λ e. refl
    ] refl

pub same-lines : (bus new : Bus) (addr : ℕ) (c : ℕ → ℕ) → c ≡ committed bus addr → IsCoherentWith new (one_line bus addr c)
    → IsCoherentWith new (committed bus)
same-lines bus new addr c same =
    subst (λ (lines : ℕ → ℕ → ℕ). IsCoherentWith new lines) (fun_ext (λ a. same-line bus addr a c same))

-- ---- a copy that the core marks

-- a core keeps a line that it holds
pub record Keeps (bus : Bus) (core addr : ℕ) (next : Next) : Type 0 where
  pub aligned : addr % bus.line_length ≡ 0
  pub in_cores : core < bus.shape.cores
  pub runs : speculates (bus.core core).attempt ≡ true
  pub held : is_valid (own bus core addr).state ≡ true
  pub up_to_date : IsUpToDate (copy_of next.state next.marks (own bus core addr).cell) (committed bus addr)
  pub within : IsWithinLine bus.line_length next.marks.bytes
  pub exclusive : is_exclusive next.state ≡ true → is_exclusive (own bus core addr).state ≡ true
  pub writes_back : next.write_back ≡ is_modified (own bus core addr).state
  pub required : requires_ownership next.state next.marks ≡ requires_ownership (own bus core addr).state (own bus core addr).marks

kept-one : (bus : Bus) (core addr : ℕ) (next : Next) → IsCoherent bus → Keeps bus core addr next
    → ChangesOne bus core addr (changed_copy (own bus core addr) next)
    (cond next.write_back (with_line bus.line_length addr (own bus core addr).cell bus.memory) bus.memory) (committed bus addr)
kept-one bus core addr next h t =
    let mine : LineCopy = own bus core addr in
    record {
      in_cores = t.in_cores;
      held = t.held;
      stays =
          with_copy-coherent (bus.core core) addr (made next.state next.marks mine.cell) (h.cores core)
          (made-required next.state next.marks mine.cell ∙ t.required)
          (λ s. absurd (both_ways (speculates (bus.core core).attempt) s t.runs));
      in_place = made-in_place bus.line_length addr next.state next.marks mine.cell (λ _. t.aligned) t.within (h.in_place core addr).cells;
      exclusive = λ e. t.exclusive (sym (ap is_exclusive (made-state next.state next.marks mine.cell)) ∙ e);
      up_to_date = made-up_to_date next.state next.marks mine.cell (committed bus addr) t.up_to_date;
      same_line = inl refl;
      in_memory =
          λ m others x. by_write next.write_back t.writes_back others x;
      elsewhere = λ a aligned e x. stays next.write_back a aligned e x;
    }
  where
    by_write : (b : Bool) → b ≡ is_modified (own bus core addr).state
        → ((k : ℕ) → k ≢ core → is_modified ((bus.core k).copy addr).state ≡ false)
        → (x : ℕ) → memory_line bus.line_length (cond b (with_line bus.line_length addr (own bus core addr).cell bus.memory) bus.memory) addr x ≡ committed bus addr x
    by_write true e others x =
        with_line-here bus.line_length addr (own bus core addr).cell bus.memory h.length_is t.aligned (h.in_place core addr).cells x
        ∙ modified_is (own bus core addr) (committed bus addr) ((h.lines addr t.aligned).up_to_date core) (sym e) x
    by_write false e others x =
        (h.lines addr t.aligned).in_memory (λ k. by_core (λ (k : ℕ). is_modified ((bus.core k).copy addr).state ≡ false) core k (sym e) (others k)) x

    stays : (b : Bool) (a : ℕ) → a % bus.line_length ≡ 0 → (addr == a) ≡ false → (x : ℕ)
        → memory_line bus.line_length (cond b (with_line bus.line_length addr (own bus core addr).cell bus.memory) bus.memory) a x ≡ memory_line bus.line_length bus.memory a x
    stays true a aligned e x = with_line-elsewhere bus.line_length addr a (own bus core addr).cell bus.memory h.length_is t.aligned aligned e x
    stays false a aligned e x = refl

pub kept-quietly : (bus : Bus) (core addr : ℕ) (next : Next) → IsCoherent bus → Keeps bus core addr next
    → ChangesQuietly bus core (with_copy addr (changed_copy (own bus core addr) next) (bus.core core))
    (cond next.write_back (with_line bus.line_length addr (own bus core addr).cell bus.memory) bus.memory)
    (one_line bus addr (committed bus addr))
kept-quietly bus core addr next h t =
    one-quietly bus core addr (changed_copy (own bus core addr) next) _ (committed bus addr) h (kept-one bus core addr next h t)

pub kept-with : (bus : Bus) (core addr : ℕ) (next : Next) → IsCoherent bus → Keeps bus core addr next
    → IsCoherentWith (kept_line bus core addr next) (committed bus)
kept-with bus core addr next h t =
    same-lines bus (kept_line bus core addr next) addr (committed bus addr) refl
    (quiet-with bus core (with_copy addr (changed_copy (own bus core addr) next) (bus.core core))
    (cond next.write_back (with_line bus.line_length addr (own bus core addr).cell bus.memory) bus.memory)
    (one_line bus addr (committed bus addr)) h (kept-quietly bus core addr next h t))

-- ---- bytes of the own mask

-- the core writes to bytes that it has modified
pub record Writes (bus : Bus) (core addr offset width : ℕ) : Type 0 where
  pub aligned : addr % bus.line_length ≡ 0
  pub in_cores : core < bus.shape.cores
  pub held : is_valid (own bus core addr).state ≡ true
  pub in_line : offset + width ≤ bus.line_length
  pub masked : (x : ℕ) → is_within offset width x ≡ true → has (own bus core addr).marks.bytes x ≡ true

written-one : (bus : Bus) (core addr offset width value : ℕ) → IsCoherent bus → Writes bus core addr offset width
    → ChangesOne bus core addr (copy_with_number offset width value (own bus core addr)) bus.memory (committed bus addr)
written-one bus core addr offset width value h t =
    let mine : LineCopy = own bus core addr in
    let line = h.lines addr t.aligned in
    let place = h.in_place core addr in
    record {
      in_cores = t.in_cores;
      held = t.held;
      stays = with_copy-coherent (bus.core core) addr (copy_with_number offset width value mine) (h.cores core) refl ((h.cores core).unmarked addr);
      in_place = record { aligned = place.aligned; mask = place.mask; cells = λ x le. number-past mine.cell bus.line_length offset width value x t.in_line le (place.cells x le) };
      exclusive = λ e. e;
      up_to_date = up_to_date (line.up_to_date core);
      same_line = inl refl;
      in_memory =
          λ m others x. line.in_memory (λ k. by_core (λ (k : ℕ). is_modified ((bus.core k).copy addr).state ≡ false) core k m (others k)) x;
      elsewhere = λ a aligned e x. refl;
    }
  where
    outside : (x : ℕ) → has (own bus core addr).marks.bytes x ≡ false → is_within offset width x ≡ false
    outside x out =
        elim (is_within offset width x) as (λ b. is_within offset width x ≡ b → b ≡ false) [
          | true ↦ λ e. let m = t.masked x e in cc
          | false ↦ λ e. refl
        ] refl

    up_to_date : IsUpToDate (own bus core addr) (committed bus addr)
        → IsUpToDate (copy_with_number offset width value (own bus core addr)) (committed bus addr)
    up_to_date u =
        record {
          not_loaded = u.not_loaded;
          not_modified = u.not_modified;
          marked = u.marked;
          agrees = λ x v out. rw (outside x out) (u.agrees x v out);
        }

pub written-quietly : (bus : Bus) (core addr offset width value : ℕ) → IsCoherent bus → Writes bus core addr offset width
    → ChangesQuietly bus core (with_copy addr (copy_with_number offset width value (own bus core addr)) (bus.core core)) bus.memory
    (one_line bus addr (committed bus addr))
written-quietly bus core addr offset width value h t =
    one-quietly bus core addr (copy_with_number offset width value (own bus core addr)) bus.memory (committed bus addr) h
    (written-one bus core addr offset width value h t)

pub written-with : (bus : Bus) (core addr offset width value : ℕ) → IsCoherent bus → Writes bus core addr offset width
    → IsCoherentWith (with_bytes bus core addr offset width value) (committed bus)
written-with bus core addr offset width value h t =
    same-lines bus (with_bytes bus core addr offset width value) addr (committed bus addr) refl
    (quiet-with bus core (with_copy addr (copy_with_number offset width value (own bus core addr)) (bus.core core)) bus.memory
    (one_line bus addr (committed bus addr)) h (written-quietly bus core addr offset width value h t))
