-- States by their parts, and cores that change.
use Rattle.std.proofs.Common.{◌≡◌, ◌≢◌, ℕ, zero, suc, ◌<◌, List, [], ◌∷◌, length, set, take, drop, ◌++◌, slice_get, Option, Some, refl, sym, ap, ◌∙◌, inl, inr, arith, option_and_then}
use Rattle.std.proofs.lemmas.Bool.{cases_eq}
use Rattle.std.proofs.Math.Path.{fun_ext}
use Rattle.std.proofs.lemmas.Grind.{common_steps}
use Rattle.rv32_image.specs.Image.{LoadedImage}
use Rattle.rv32_image.proofs.SmallFacts.{one_value}
use Rattle.rv32_exec.specs.declared.sequential.End.{End}
use Rattle.spec_history.specs.declared.cores.Core.{Core}
use Rattle.spec_history.specs.FlatState.{CoreState, FlatState}
use Rattle.spec_history.specs.Effect.{with_core}
use Rattle.spec_history.specs.Cores.{core_of, IsCoreOf}
use Rattle.spec_history.specs.Machine.{cores_of, AreCoresOf}
use Rattle.spec_history.proofs.OneEntry.Keeping.{with_core_same, with_core_other}

pub get_set_same : (cores : List Core) (i : ℕ) (core : Core) → i < length cores → slice_get (set cores i core) i ≡ Some core
get_set_same [] i core below = absurd (omega arith)
get_set_same (first ∷ rest) zero core below = refl
get_set_same (first ∷ rest) (suc i) core below = get_set_same rest i core (omega arith)

pub get_set_other : (cores : List Core) (i k : ℕ) (core : Core) → k ≢ i → slice_get (set cores i core) k ≡ slice_get cores k
get_set_other [] i k core other = refl
get_set_other (first ∷ rest) zero zero core other = absurd (other refl)
get_set_other (first ∷ rest) zero (suc k) core other = refl
get_set_other (first ∷ rest) (suc i) zero core other = refl
get_set_other (first ∷ rest) (suc i) (suc k) core other = get_set_other rest i k core (λ e. other (ap suc e))

-- one core changed is one core state changed
pub states_set : (cores : List Core) (i : ℕ) (core : Core) → i < length cores → (k : ℕ) → cores_of (set cores i core) k ≡ with_core (cores_of cores) i (core_of core) k
states_set cores i core below k = elim (cases_eq k i) [
  | inl e ↦ ap (cores_of (set cores i core)) e ∙ (ap (option_and_then core_of) (get_set_same cores i core below)
      ∙ sym (ap (with_core (cores_of cores) i (core_of core)) e ∙ with_core_same (cores_of cores) i (core_of core)))
  | inr other ↦ ap (option_and_then core_of) (get_set_other cores i k core other) ∙ sym (with_core_other (cores_of cores) i (core_of core) k other)
]

-- a fact of all cores stays, where it holds of the one that changed
pub each_set : (P : Core → Type 0) (cores : List Core) (i : ℕ) (core : Core) → i < length cores → P core
    → ((k : ℕ) (l : Core) → slice_get cores k ≡ Some l → P l) → (k : ℕ) (l : Core) → slice_get (set cores i core) k ≡ Some l → P l
each_set P cores i core below here all k l at = elim (cases_eq k i) [
  | inl e ↦ let same : core ≡ l = one_value _ core l (get_set_same cores i core below) (sym (ap (slice_get (set cores i core)) e) ∙ at) in rw (← same) here
  | inr other ↦ all k l (sym (get_set_other cores i k core other) ∙ at)
]

pub fit_set : (image : LoadedImage) (cores : List Core) (i : ℕ) (core : Core) → i < length cores → IsCoreOf image core → AreCoresOf image cores
    → AreCoresOf image (set cores i core)
fit_set image cores i core below here all = record { each = each_set (IsCoreOf image) cores i core below here all.each }

-- two states with the same parts are one
pub same_state : (committed committed' : ℕ → ℕ) (homefree homefree' published published' next_epoch next_epoch' : ℕ) (end end' : Option End) (cores cores' : ℕ → Option CoreState)
    → ((a : ℕ) → committed a ≡ committed' a) → homefree ≡ homefree' → published ≡ published' → next_epoch ≡ next_epoch' → end ≡ end' → ((k : ℕ) → cores k ≡ cores' k)
    → ◌≡◌ {A = FlatState} (record { committed = committed; homefree = homefree; published = published; next_epoch = next_epoch; end = end; cores = cores })
    (record { committed = committed'; homefree = homefree'; published = published'; next_epoch = next_epoch'; end = end'; cores = cores' })
same_state committed committed' homefree homefree' published published' next_epoch next_epoch' end end' cores cores' bytes h p n e c =
    let m = fun_ext bytes in let k = fun_ext c in cc

-- a list that was changed in place
pub whole_items : {A : Type 0} (old new : List A) (len : ℕ) → len ≡ length old → length new ≡ length old → take len (new ++ drop (length new) old) ≡ new
whole_items old new len is same = grind (arith, common_steps)
