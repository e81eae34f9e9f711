-- The run in order, access by access and epoch by epoch.
use Rattle.std.proofs.Common.{◌≡◌, None, ℕ, suc, ◌+◌, ◌*◌, ◌<◌, ◌≤◌, true, refl, arith}
use Rattle.rv32_image.specs.Image.{LoadedImage}
use Rattle.rv32_exec.specs.Hart.{HartState, start_of}
use Rattle.violations.specs.Rule.{shape_of}
use Rattle.violations.specs.View.{Runs}
use Rattle.turn_costs.specs.declared.costs.Costs.{Costs}
use Rattle.turn_costs.specs.Order.{Kind, Goes, GoesThrough, RunsEpochs}

-- the accesses so far have led from the store where it began to this hart and store
pub record SoFar {S : Type 0} (kind : Kind S) (image : LoadedImage) (costs : Costs) (epoch : ℕ) (begun : S) (memory : ℕ) (hart : HartState) (store : S) : Type 0 where
  pub accesses : ℕ
  pub goes : GoesThrough kind image costs (start_of image epoch) begun accesses memory hart store
  pub shape : (kind.view store).shape ≡ shape_of image 1
  pub runs : Runs (kind.view store) 0 true
  pub within : hart.done ≤ image.limit
  pub few : memory ≤ 2000000 * hart.done

pub so_far_more : {S : Type 0} (kind : Kind S) (image : LoadedImage) (costs : Costs) (epoch : ℕ) (begun : S) (memory : ℕ) (hart : HartState) (store : S)
    → SoFar kind image costs epoch begun memory hart store → (steps : ℕ) (h : HartState) (s : S) → Goes kind image costs hart store steps h s
    → (kind.view s).shape ≡ shape_of image 1 → Runs (kind.view s) 0 true → h.done ≤ image.limit → steps ≤ 2000000 → hart.done < h.done
    → SoFar kind image costs epoch begun (memory + steps) h s
so_far_more kind image costs epoch begun memory hart store r steps h s goes shape runs within few later = record {
  accesses = suc r.accesses;
  goes = (hart, store, memory, steps, r.goes, goes, refl);
  shape = shape;
  runs = runs;
  within = within;
  few = let so_far = r.few in omega arith;
}

-- the epochs so far, from a fresh store on
pub record AreSoFar {S : Type 0} (kind : Kind S) (image : LoadedImage) (costs : Costs) (fresh : S) (n steps : ℕ) (store : S) : Type 0 where
  pub runs : RunsEpochs kind image costs fresh n steps store
  pub shape : (kind.view store).shape ≡ shape_of image 1
  pub idle : (kind.view store).attempt 0 ≡ None
  pub few : steps ≤ n * 2000001000001
