-- How a bus begins, and how attempts begin and end on it, as the store's rule says.
use Rattle.std.proofs.Common.{◌≡◌, ◌≢◌, ℕ, ◌+◌, ◌%◌, ◌<◌, ◌≤◌, true, false, cond, nat_lt, Option, Some, None, slice_index, refl, sym, ap, subst, ◌∙◌, arith}
use Rattle.std.proofs.lemmas.Bool.Decides.{nat_tests}
use Rattle.rv32_image.specs.Image.{LoadedImage}
use Rattle.cache_lines.specs.Lines.{geometry_of}
use Rattle.rv32_image.proofs.SmallFacts.{none_and_some}
use Rattle.rv32_image.specs.Machine.{is_line_length}
use Rattle.violations.specs.declared.attempt.Attempt.{Attempt}
use Rattle.violations.specs.View.{Shape, attempt_of, MayBegin, Runs}
use Rattle.violations.specs.Rule.{IsFresh, IsSameCore, Begins, Ends, shape_of}
use Rattle.bus_states.specs.Bus.{CoreState, Bus, no_core, committed, line_of, offset_of, memory_line}
use Rattle.bus_states.specs.Coherent.{IsCoherent, speculates}
use Rattle.bus_states.specs.Messages.{dropped_core}
use Rattle.bus_states.specs.Attempts.{with_core, after_begin, after_leave, after_cancel}
use Rattle.bus_states.specs.Views.{view_of, AreOrdered}
use Rattle.bus_states.proofs.Addresses.{line-aligned, line-and_offset, offset-in_line}
use Rattle.bus_states.proofs.Coherence.{IsCoherentWith, committed-with, coherent-with}
use Rattle.bus_states.proofs.Copies.{itself}
use Rattle.bus_states.proofs.Hurting.{quiet-shows}
use Rattle.bus_states.proofs.Opening.{IsIdle, idle-with}
use Rattle.bus_states.proofs.Ordered.{clear-of, runs-there}
use Rattle.bus_states.proofs.Quiet
use Rattle.bus_states.proofs.QuietCalls.{begin-with, leave-with, cancel-with}
use Rattle.bus_states.proofs.Showing.{Shows, Shows-same, ShowsSame, committed_at, own_stays, guarded_stays, sees_stays, same_core}

-- ---- a new bus

-- it has the image's memory, and nobody holds or runs anything
pub record IsOpened (bus : Bus) (image : LoadedImage) (cores : ℕ) : Type 0 where
  pub shape : bus.shape ≡ shape_of image cores
  pub memory : (a : ℕ) → bus.memory a ≡ slice_index image.bytes a
  pub length_is : is_line_length bus.line_length ≡ true
  pub length_of : bus.line_length ≡ image.machine.line_length
  pub of_places : image.machine.apart ≡ None
  pub geometry_is : bus.geometry ≡ geometry_of image.machine
  pub whole_lines : bus.shape.size % bus.line_length ≡ 0
  pub lengths : (k : ℕ) → k < bus.shape.cores → (bus.core k).line_length ≡ bus.line_length
  pub geometries : (k : ℕ) → k < bus.shape.cores → (bus.core k).geometry ≡ bus.geometry
  pub limits : (k : ℕ) → k < bus.shape.cores → (bus.core k).buffer.limit ≡ image.machine.buffer_lines
  pub idle : (k : ℕ) → IsIdle (bus.core k)
  pub absent : (k : ℕ) → bus.shape.cores ≤ k → bus.core k ≡ no_core

opened-with : (bus : Bus) (image : LoadedImage) (cores : ℕ) → IsOpened bus image cores
    → IsCoherentWith bus (memory_line bus.line_length bus.memory)
opened-with bus image cores h =
    idle-with bus h.length_is (h.length_of ∙ sym (ap (λ (shape : Shape). shape.machine.line_length) h.shape))
    (ap (λ (shape : Shape). shape.machine.apart) h.shape ∙ h.of_places)
    (h.geometry_is ∙ sym (ap (λ (shape : Shape). geometry_of shape.machine) h.shape)) h.whole_lines h.lengths h.geometries
    (λ k inside. h.limits k inside ∙ sym (ap (λ (shape : Shape). shape.machine.buffer_lines) h.shape)) h.idle h.absent

pub opened-coherent : (bus : Bus) (image : LoadedImage) (cores : ℕ) → IsOpened bus image cores → IsCoherent bus
opened-coherent bus image cores h = coherent-with bus (memory_line bus.line_length bus.memory) (opened-with bus image cores h)

pub opened-is_fresh : (bus : Bus) (image : LoadedImage) (cores : ℕ) → IsOpened bus image cores → IsFresh image cores (view_of bus)
opened-is_fresh bus image cores h =
    record {
      shape = h.shape;
      committed =
          λ a. committed-with bus (memory_line bus.line_length bus.memory) (opened-with bus image cores h) (line_of bus.line_length a) (line-aligned bus.line_length a h.length_is) (offset_of bus.line_length a)
          ∙ in_line (offset_of bus.line_length a) bus.line_length (line_of bus.line_length a) a bus.memory (offset-in_line bus.line_length a h.length_is) (line-and_offset bus.line_length a h.length_is)
          ∙ h.memory a;
      idle = λ k. (h.idle k).attempt;
    }
  where
    in_line : (x n line a : ℕ) (memory : ℕ → ℕ) → x < n → line + x ≡ a → cond (nat_lt x n) (memory (line + x)) 0 ≡ memory a
    in_line x n line a memory lt e = let here : nat_lt x n ≡ true = grind (arith, nat_tests) in rw (here, e) refl

pub opened-ordered : (bus : Bus) (image : LoadedImage) (cores : ℕ) → IsOpened bus image cores → AreOrdered bus
opened-ordered bus image cores h =
    record {
      apart = λ j k x y at_j at_k e. absurd (none_and_some (bus.core j).attempt x (h.idle j).attempt at_j);
      straight_first = λ j k x y at_j straight at_k away. absurd (none_and_some (bus.core j).attempt x (h.idle j).attempt at_j);
    }

-- ---- one core changes and what is committed stays

pub at_core : (bus : Bus) (core : ℕ) (own : CoreState) → (with_core core own bus).core core ≡ own
at_core bus core own = rw (itself core) refl

-- what is committed at each address
pub with-committed : (old new : Bus) → IsCoherent old → new.line_length ≡ old.line_length → IsCoherentWith new (committed old)
    → (a : ℕ) → (view_of new).committed a ≡ (view_of old).committed a
with-committed old new h length with a =
    committed_at old new length a
    ∙ committed-with new (committed old) with (line_of old.line_length a)
    (subst (λ (n : ℕ). line_of old.line_length a % n ≡ 0) (sym length) (line-aligned old.line_length a h.length_is)) (offset_of old.line_length a)

-- each other core is as it was
others-same : (bus : Bus) (core : ℕ) (own : CoreState) → IsCoherent bus → IsCoherentWith (with_core core own bus) (committed bus)
    → (k : ℕ) → k ≢ core → IsSameCore (view_of bus) (view_of (with_core core own bus)) k
others-same bus core own h with k away =
    same_core bus (with_core core own bus) k (quiet-shows bus core own bus.memory k h away)
    (ap (λ (core : CoreState). core.attempt) (Quiet.at_other bus core own bus.memory k away))
    (λ a aligned x. committed-with (with_core core own bus) (committed bus) with a aligned x)

-- the core shows what it showed, where it changes its attempt alone
attempt-shows : (bus : Bus) (core : ℕ) (attempt : Option Attempt) → IsCoherent bus
    → ShowsSame bus (with_core core (record (bus.core core) { attempt = attempt }) bus) core
attempt-shows bus core attempt h =
    record {
      length_is = h.length_is;
      length = refl;
      copies =
          λ a aligned. subst (λ (state : CoreState). Shows ((bus.core core).copy a) (state.copy a))
          (sym (at_core bus core (record (bus.core core) { attempt = attempt }))) (Shows-same ((bus.core core).copy a));
    }

pub begin-begins : (bus : Bus) (core epoch : ℕ) → IsCoherent bus → MayBegin (view_of bus) core epoch
    → Begins (view_of bus) (view_of (after_begin bus core epoch)) core epoch
begin-begins bus core epoch h may =
    let new : Bus = after_begin bus core epoch in
    let own : CoreState = record (bus.core core) { attempt = Some (attempt_of epoch false) } in
    let with : IsCoherentWith new (committed bus) = begin-with bus core epoch h may.there in
    let shows : ShowsSame bus new core = attempt-shows bus core (Some (attempt_of epoch false)) h in
    record {
      shape = refl;
      cached = refl;
      committed = with-committed bus new h refl with;
      attempt = ap (λ (core : CoreState). core.attempt) (at_core bus core own);
      own = own_stays bus new core shows;
      guarded = guarded_stays bus new core shows;
      sees = sees_stays bus new core shows (committed-with new (committed bus) with);
      others = others-same bus core own h with;
    }

-- ---- attempts that end

-- a core that runs nothing then
ends-with : (bus : Bus) (core : ℕ) (own : CoreState) → IsCoherent bus → own.attempt ≡ None
    → IsCoherentWith (with_core core own bus) (committed bus) → Ends (view_of bus) (view_of (with_core core own bus)) core
ends-with bus core own h none with =
    let attempt : ((with_core core own bus).core core).attempt ≡ None = ap (λ (core : CoreState). core.attempt) (at_core bus core own) ∙ none in
    record {
      shape = refl;
      cached = refl;
      committed = with-committed bus (with_core core own bus) h refl with;
      attempt = attempt;
      clear = clear-of (with_core core own bus) core (coherent-with (with_core core own bus) (committed bus) with) (ap speculates attempt);
      others = others-same bus core own h with;
    }

pub leave-ends : (bus : Bus) (core : ℕ) → IsCoherent bus → Runs (view_of bus) core true
    → Ends (view_of bus) (view_of (after_leave bus core)) core
leave-ends bus core h runs =
    ends-with bus core (record (bus.core core) { attempt = None }) h refl
    (leave-with bus core h (runs-there bus core (attempt_of runs.epoch true) h runs.is) (ap speculates runs.is))

pub cancel-ends : (bus : Bus) (core : ℕ) → IsCoherent bus → Runs (view_of bus) core false
    → Ends (view_of bus) (view_of (after_cancel bus core)) core
cancel-ends bus core h runs =
    ends-with bus core (dropped_core (bus.core core)) h refl
    (cancel-with bus core h (runs-there bus core (attempt_of runs.epoch false) h runs.is))
