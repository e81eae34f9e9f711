-- New buses.
use Rattle.std.proofs.Common.{◌≡◌, ℕ, zero, suc, ◌<◌, ◌≤◌, nat_lt, ◌++◌, ◌∷◌, [], List, Bool, true, false, cond, length, slice_index, None, refl, ap, ◌∙◌, arith}
use Rattle.std.proofs.lemmas.Bool.Decides.{nat_tests}
use Rattle.std.proofs.lemmas.Option.{slice_get_past}
use Rattle.rv32_image.specs.declared.machine.Machine.{Machine}
use Rattle.rv32_image.specs.Image.{LoadedImage}
use Rattle.rv32_image.specs.Machine.{IsMachineFor}
use Rattle.orb.specs.Lines.{Buffer}
use Rattle.bus_states.specs.Bus.{CoreState, no_core}
use Rattle.bus_states.proofs.AttemptRules.{IsOpened}
use Rattle.bus_states.proofs.Opening.{IsIdle}
use Rattle.spec_bus.specs.declared.bus_core.Core.{Core}
use Rattle.spec_bus.specs.CoreStates.{state_of}
use Rattle.spec_bus.specs.Fresh.{idle_core, fresh_bus, AreIdle}
use Rattle.spec_bus.specs.Parts.{bus_of, core_at, state_or_none}
use Rattle.spec_bus.proofs.Moving.{same_bus}

abbrev buffer_record : ℕ → List ℕ → Buffer
buffer_record limit lines = record { limit = limit; lines = lines }

pub same_buffer : (buffer : Buffer) (limit : ℕ) (lines : List ℕ) → buffer.limit ≡ limit → buffer.lines ≡ lines
    → buffer ≡ record { limit = limit; lines = lines }
same_buffer buffer limit lines e f =
    ap (λ (n : ℕ). buffer_record n buffer.lines) e ∙ ap (λ (xs : List ℕ). buffer_record limit xs) f

-- ---- idle cores

each_more : (P : CoreState → Type 0) (cores : List Core) (core : Core) → ((k : ℕ) → k < length cores → P (core_at cores k))
    → P (state_of core) → (k : ℕ) → k < length (cores ++ core ∷ []) → P (core_at (cores ++ core ∷ []) k)
each_more P [] core h p zero lt = p
each_more P [] core h p (suc k) lt = absurd (omega arith)
each_more P (x ∷ cores) core h p zero lt = h zero (omega arith)
each_more P (x ∷ cores) core h p (suc k) lt = each_more P cores core (λ k inside. h (suc k) (omega arith)) p k (omega arith)

-- one more idle core
pub idle_more : (machine : Machine) (cores : List Core) (core : Core) → AreIdle machine cores
    → state_of core ≡ idle_core machine → AreIdle machine (cores ++ core ∷ [])
idle_more machine cores core h idle =
    record { each = each_more (λ (core : CoreState). core ≡ idle_core machine) cores core h.each idle }

pub idle_none : (machine : Machine) → AreIdle machine []
idle_none machine = record { each = λ k lt. absurd (omega arith) }

-- ---- the bus

core-is : (machine : Machine) (count k : ℕ) (cores : List Core) → length cores ≡ count → AreIdle machine cores
    → core_at cores k ≡ cond (nat_lt k count) (idle_core machine) no_core
core-is machine count k cores e idle =
    elim (nat_lt k count) as (λ b. nat_lt k count ≡ b → core_at cores k ≡ cond b (idle_core machine) no_core) [
      | true ↦ λ t.
          let lt : k < count = grind (arith, nat_tests) in
          idle.each k (omega arith)
      | false ↦ λ t.
          let le : count ≤ k = grind (arith, nat_tests) in
          ap state_or_none (slice_get_past cores k (omega arith))
    ] refl

pub fresh_is : (image : LoadedImage) (count code : ℕ) (machine : Machine) (cores : List Core) (memory : List ℕ)
    → length cores ≡ count → length memory ≡ image.size → code ≡ image.code → machine ≡ image.machine
    → memory ≡ image.bytes → AreIdle image.machine cores
    → bus_of code machine cores memory ≡ fresh_bus image count
fresh_is image count code machine cores memory e f g h i idle =
    same_bus _ _ _ _ _ _ _ _ _ _ _ _ e f g h
    (λ k. core-is image.machine count k cores e idle)
    (λ p. ap (λ (bytes : List ℕ). slice_index bytes p) i)

-- ---- it is new

pub fresh_opened : (image : LoadedImage) (count : ℕ) → IsMachineFor image.size image.machine → image.machine.apart ≡ None → IsOpened (fresh_bus image count) image count
fresh_opened image count h none =
    record {
      shape = refl;
      memory = λ a. refl;
      length_is = h.is.line_length;
      length_of = refl;
      of_places = none;
      geometry_is = refl;
      whole_lines = h.whole_lines;
      lengths = λ k lt. let inside : nat_lt k count ≡ true = grind (arith, nat_tests) in rw inside refl;
      geometries = λ k lt. let inside : nat_lt k count ≡ true = grind (arith, nat_tests) in rw inside refl;
      limits = λ k lt. let inside : nat_lt k count ≡ true = grind (arith, nat_tests) in rw inside refl;
      idle = λ k. pick (nat_lt k count);
      absent = λ k le. let outside : nat_lt k count ≡ false = grind (arith, nat_tests) in rw outside refl;
    }
  where
    pick : (b : Bool) → IsIdle (cond b (idle_core image.machine) no_core)
    pick true = record { copy = λ addr. refl; lines = refl; limit = h.is.few_lines; attempt = refl }
    pick false = record { copy = λ addr. refl; lines = refl; limit = omega arith; attempt = refl }
