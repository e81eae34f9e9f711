-- One core changes what it holds and tells nobody.
use Rattle.std.proofs.Common.{◌≡◌, ◌≢◌, ℕ, ◌+◌, ◌%◌, ◌<◌, ◌≤◌, ◌==◌, ◌⊎◌, inl, inr, true, false, refl, sym, subst, ◌∙◌, arith, ne_eqb}
use Rattle.std.proofs.lemmas.Bool.Decides.{nat_tests}
use Rattle.spec_states.specs.Copies.{IsUpToDate}
use Rattle.spec_states.specs.States.{is_valid, is_exclusive, is_modified}
use Rattle.cache_lines.specs.Protocol.{IsInPlace}
use Rattle.bus_states.specs.Bus.{CoreState, Bus, committed, memory_line}
use Rattle.bus_states.specs.Coherent.{IsCoherent, IsCoherentLine, IsCoherentCore}
use Rattle.bus_states.specs.Attempts.{with_core}
use Rattle.bus_states.proofs.Coherence.{IsCoherentWith, by_core}
use Rattle.bus_states.proofs.Copies.{itself, not_so, up_to_date-invalid}

-- the core is then as given, and memory too; c is what is committed then
pub record ChangesQuietly (bus : Bus) (core : ℕ) (own : CoreState) (memory : ℕ → ℕ) (c : ℕ → ℕ → ℕ) : Type 0 where
  pub in_cores : core < bus.shape.cores
  pub same_length : own.line_length ≡ (bus.core core).line_length
  pub same_geometry : own.geometry ≡ (bus.core core).geometry
  pub same_limit : own.buffer.limit ≡ (bus.core core).buffer.limit
  pub stays : IsCoherentCore own
  pub in_place : (a : ℕ) → IsInPlace bus.line_length a (own.copy a)
  pub no_revival : (a : ℕ) → is_valid (own.copy a).state ≡ true → is_valid ((bus.core core).copy a).state ≡ true
  pub exclusive : (a : ℕ) → is_exclusive (own.copy a).state ≡ true → is_exclusive ((bus.core core).copy a).state ≡ true
  pub up_to_date : (a : ℕ) → a % bus.line_length ≡ 0 → IsUpToDate (own.copy a) (c a)
  -- what is committed stays, but for lines that no other core holds
  pub same_line : (a : ℕ) → a % bus.line_length ≡ 0 → (c a ≡ committed bus a) ⊎ (is_exclusive ((bus.core core).copy a).state ≡ true)
  pub in_memory : (a : ℕ) → a % bus.line_length ≡ 0 → is_modified (own.copy a).state ≡ false
      → ((k : ℕ) → k ≢ core → is_modified ((bus.core k).copy a).state ≡ false)
      → (x : ℕ) → memory_line bus.line_length memory a x ≡ c a x

abbrev pub quietly : Bus → ℕ → CoreState → (ℕ → ℕ) → Bus
quietly bus core own memory = record (with_core core own bus) { memory = memory }

at_own : (bus : Bus) (core : ℕ) (own : CoreState) (memory : ℕ → ℕ) → (quietly bus core own memory).core core ≡ own
at_own bus core own memory = rw (itself core) refl

pub at_other : (bus : Bus) (core : ℕ) (own : CoreState) (memory : ℕ → ℕ) (k : ℕ) → k ≢ core
    → (quietly bus core own memory).core k ≡ bus.core k
at_other bus core own memory k away = rw (ne_eqb k core away) refl

line : (bus : Bus) (core : ℕ) (own : CoreState) (memory : ℕ → ℕ) (c : ℕ → ℕ → ℕ) → IsCoherent bus
    → ChangesQuietly bus core own memory c → (a : ℕ) → a % bus.line_length ≡ 0
    → IsCoherentLine (λ k. ((quietly bus core own memory).core k).copy a) (memory_line bus.line_length memory a) (c a)
line bus core own memory c h t a aligned =
    let held = h.lines a aligned in
    record {
      exclusive =
          λ j k apart ex. elim (j == core) as (λ b. (j == core) ≡ b → is_valid (((quietly bus core own memory).core k).copy a).state ≡ false) [
            | true ↦ λ e.
                let here : j ≡ core = grind (arith, nat_tests) in
                let away : k ≢ core = λ q. apart (here ∙ sym q) in
                rw (at_other bus core own memory k away)
                (held.exclusive core k (λ q. away (sym q)) (t.exclusive a (rw (here, at_own bus core own memory) at ex)))
            | false ↦ λ e.
                let there : j ≢ core = grind (arith, nat_tests) in
                let alone : (k : ℕ) → j ≢ k → is_valid ((bus.core k).copy a).state ≡ false = λ k n. held.exclusive j k n (rw (at_other bus core own memory j there) at ex) in
                by_core (λ (k : ℕ). j ≢ k → is_valid (((quietly bus core own memory).core k).copy a).state ≡ false) core k
                (λ n. rw (at_own bus core own memory) (not_so (is_valid (own.copy a).state) (is_valid ((bus.core core).copy a).state) (t.no_revival a) (alone core n)))
                (λ away n. rw (at_other bus core own memory k away) (alone k n)) apart
          ] refl;
      up_to_date =
          λ k. by_core (λ (k : ℕ). IsUpToDate (((quietly bus core own memory).core k).copy a) (c a)) core k
          (rw (at_own bus core own memory) (t.up_to_date a aligned))
          (λ away. rw (at_other bus core own memory k away) (others k away (t.same_line a aligned)));
      in_memory =
          λ none x.
          t.in_memory a aligned (rw (at_own bus core own memory) at (none core))
          (λ k away. rw (at_other bus core own memory k away) at (none k)) x;
    }
  where
    others : (k : ℕ) → k ≢ core → (c a ≡ committed bus a) ⊎ (is_exclusive ((bus.core core).copy a).state ≡ true)
        → IsUpToDate ((bus.core k).copy a) (c a)
    others k away (inl e) =
        subst (λ (c : ℕ → ℕ). IsUpToDate ((bus.core k).copy a) c) (sym e) ((h.lines a aligned).up_to_date k)
    others k away (inr e) =
        up_to_date-invalid ((bus.core k).copy a) (committed bus a) (c a) ((h.lines a aligned).up_to_date k)
        ((h.lines a aligned).exclusive core k (λ q. away (sym q)) e)

pub quiet-with : (bus : Bus) (core : ℕ) (own : CoreState) (memory : ℕ → ℕ) (c : ℕ → ℕ → ℕ) → IsCoherent bus
    → ChangesQuietly bus core own memory c → IsCoherentWith (quietly bus core own memory) c
quiet-with bus core own memory c h t =
    record {
      length_is = h.length_is;
      length_of = h.length_of;
      of_places = h.of_places;
      geometry_is = h.geometry_is;
      whole_lines = h.whole_lines;
      lengths =
          λ k inside. by_core (λ (k : ℕ). k < bus.shape.cores → ((quietly bus core own memory).core k).line_length ≡ bus.line_length) core k
          (rw (at_own bus core own memory) (λ i. t.same_length ∙ h.lengths core i))
          (λ away. rw (at_other bus core own memory k away) (h.lengths k)) inside;
      geometries =
          λ k inside. by_core (λ (k : ℕ). k < bus.shape.cores → ((quietly bus core own memory).core k).geometry ≡ bus.geometry) core k
          (rw (at_own bus core own memory) (λ i. t.same_geometry ∙ h.geometries core i))
          (λ away. rw (at_other bus core own memory k away) (h.geometries k)) inside;
      limits =
          λ k inside. by_core (λ (k : ℕ). k < bus.shape.cores → ((quietly bus core own memory).core k).buffer.limit ≡ bus.shape.machine.buffer_lines) core k
          (rw (at_own bus core own memory) (λ i. t.same_limit ∙ h.limits core i))
          (λ away. rw (at_other bus core own memory k away) (h.limits k)) inside;
      lines = line bus core own memory c h t;
      cores =
          λ k. by_core (λ (k : ℕ). IsCoherentCore ((quietly bus core own memory).core k)) core k
          (rw (at_own bus core own memory) t.stays) (λ away. rw (at_other bus core own memory k away) (h.cores k));
      in_place =
          λ k a. by_core (λ (k : ℕ). IsInPlace bus.line_length a (((quietly bus core own memory).core k).copy a)) core k
          (rw (at_own bus core own memory) (t.in_place a)) (λ away. rw (at_other bus core own memory k away) (h.in_place k a));
      inside =
          λ k a. by_core (λ (k : ℕ). is_valid (((quietly bus core own memory).core k).copy a).state ≡ true → a + bus.line_length ≤ bus.shape.size) core k
          (rw (at_own bus core own memory) (λ v. h.inside core a (t.no_revival a v)))
          (λ away. rw (at_other bus core own memory k away) (λ v. h.inside k a v));
      absent =
          λ k past.
          let here : core < bus.shape.cores = t.in_cores in
          let away : k ≢ core = omega arith in
          at_other bus core own memory k away ∙ h.absent k past;
    }

-- ---- memory and what is committed stay

-- the core's copies stay, go or lose their marks, and stay M
pub record Fades (bus : Bus) (core : ℕ) (own : CoreState) : Type 0 where
  pub in_cores : core < bus.shape.cores
  pub same_length : own.line_length ≡ (bus.core core).line_length
  pub same_geometry : own.geometry ≡ (bus.core core).geometry
  pub same_limit : own.buffer.limit ≡ (bus.core core).buffer.limit
  pub stays : IsCoherentCore own
  pub in_place : (a : ℕ) → IsInPlace bus.line_length a (own.copy a)
  pub no_revival : (a : ℕ) → is_valid (own.copy a).state ≡ true → is_valid ((bus.core core).copy a).state ≡ true
  pub exclusive : (a : ℕ) → is_exclusive (own.copy a).state ≡ true → is_exclusive ((bus.core core).copy a).state ≡ true
  pub modified : (a : ℕ) → is_modified (own.copy a).state ≡ is_modified ((bus.core core).copy a).state
  pub up_to_date : (a : ℕ) → a % bus.line_length ≡ 0 → IsUpToDate (own.copy a) (committed bus a)

pub fades-quietly : (bus : Bus) (core : ℕ) (own : CoreState) → IsCoherent bus → Fades bus core own
    → ChangesQuietly bus core own bus.memory (committed bus)
fades-quietly bus core own h t =
    record {
      in_cores = t.in_cores;
      same_length = t.same_length;
      same_geometry = t.same_geometry;
      same_limit = t.same_limit;
      stays = t.stays;
      in_place = t.in_place;
      no_revival = t.no_revival;
      exclusive = t.exclusive;
      up_to_date = t.up_to_date;
      same_line = λ a aligned. inl refl;
      in_memory =
          λ a aligned mine others.
          (h.lines a aligned).in_memory
          (λ k. by_core (λ (k : ℕ). is_modified ((bus.core k).copy a).state ≡ false) core k (sym (t.modified a) ∙ mine) (others k));
    }
