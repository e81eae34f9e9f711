-- The loads that depend on earlier epochs in order, each with the last store of what it reads.
-- Source: the last write before a read is the source of a value in Feautrier, "Dataflow Analysis of Array and Scalar References",
-- International Journal of Parallel Programming, 1991.
use Rattle.std.specs.Prelude.{◌≡◌, ◌⊎◌, ℕ, ◌<◌, ◌≤◌, List, Some, slice_get}
use Rattle.rv32_image.specs.Image.{LoadedImage}
use Rattle.dependences.specs.declared.flow.Dependence.{Dependence}
use Rattle.epoch_paths.specs.Flow.{DependsAt}

-- of the bytes that the load reads so, it is the one whose last store is of the latest epoch, and the lowest of those
pub record IsDependence (image : LoadedImage) (x : Dependence) : Type 0 where
  pub depends : DependsAt image x.later x.loaded x.byte x.earlier x.stored
  pub load_pc : x.load_pc ≡ depends.there.hart.pc
  pub store_pc : x.store_pc ≡ depends.store.there.hart.pc
  pub nearest : (byte d step : ℕ) → DependsAt image x.later x.loaded byte d step → (d < x.earlier) ⊎ ((d ≡ x.earlier) × (x.byte ≤ byte))

-- a step of an epoch is before that of another one, or of the same epoch
abbrev pub IsBefore : ℕ → ℕ → ℕ → ℕ → Type 0
IsBefore epoch step epoch' step' = (epoch < epoch') ⊎ ((epoch ≡ epoch') × (step < step'))

-- one of each load that depends on an earlier epoch, in order
pub record AreDependences (image : LoadedImage) (list : List Dependence) : Type 0 where
  pub each : (k : ℕ) (x : Dependence) → slice_get list k ≡ Some x → IsDependence image x
  pub all : (later loaded byte earlier stored : ℕ) → DependsAt image later loaded byte earlier stored
      → (k : ℕ) × (x : Dependence) × (slice_get list k ≡ Some x) × (x.later ≡ later) × (x.loaded ≡ loaded)
  pub in_order : (j k : ℕ) (x y : Dependence) → slice_get list j ≡ Some x → slice_get list k ≡ Some y → j < k
      → IsBefore x.later x.loaded y.later y.loaded
