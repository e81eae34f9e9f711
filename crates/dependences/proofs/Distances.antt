-- What the least distance of epochs that depend on each other says of so many cores, where all epochs run in order.
use Rattle.std.proofs.Common.{◌≡◌, ℕ, ◌+◌, ◌<◌, ◌≤◌, false, true, Option, Some, None, refl, arith}
use Rattle.std.proofs.lemmas.Bool.Decides.{nat_tests}
use Rattle.rv32_image.specs.Image.{LoadedImage, IsImage}
use Rattle.dependences.specs.Conflict.{ConflictInOrder}
use Rattle.epoch_paths.specs.InOrder.{AreAll}
use Rattle.dependences.specs.Kept.{DependsBefore, IsLeast, is_near}
use Rattle.dependences.specs.Laws.{NeverOverBytes}
use Rattle.dependences.specs.Nearest.{Depends, IsNearest}
use Rattle.dependences.proofs.Ending.{far_before, near_conflicts, none_at_all}
use Rattle.dependences.proofs.Nevers.{never_bytes_on_fewer}

least_before : (image : LoadedImage) (n : ℕ) (o : Option ℕ) → ((earlier later : ℕ) → Depends image earlier later → later < n) → IsNearest image o → IsLeast (DependsBefore image n) o
least_before image n None within none = λ k x. none x.earlier x.later x.depends
least_before image n (Some distance) within near = (
  record { earlier = near.0.0; later = near.0.0 + distance; apart = refl; before = within near.0.0 (near.0.0 + distance) near.0.1; depends = near.0.1 },
  λ k x. let most = near.1 x.earlier x.later x.depends in let apart = x.apart in omega (arith, most, apart),
)

module _ (image : LoadedImage) (all : AreAll image image.epochs) (nearest : Option ℕ) (is : IsNearest image nearest) where
  least_of : IsLeast (DependsBefore image image.epochs) nearest
  least_of = least_before image image.epochs nearest (λ earlier later depends. all.no_more later depends.within depends.in_order) is

  pub near_on : (cores : ℕ) → is_near cores nearest ≡ true → ConflictInOrder image cores
  near_on cores near = near_conflicts image cores image.epochs all nearest least_of near

  pub far_on : (cores : ℕ) → IsImage image → is_near cores nearest ≡ false → (fewer : ℕ) → fewer ≤ cores → NeverOverBytes image fewer
  far_on cores limits far = never_bytes_on_fewer image cores limits (none_at_all image cores (far_before image cores image.epochs all nearest least_of far))

-- an epoch doesn't depend on itself
pub some_apart : (image : LoadedImage) (distance : ℕ) → IsNearest image (Some distance) → 0 < distance
some_apart image distance is = let before = is.0.1.before in omega (arith, before)

pub near_more : (distance : ℕ) → is_near (distance + 1) (Some distance) ≡ true
near_more distance = grind (arith, nat_tests)

pub far_below : (distance cores : ℕ) → cores ≤ distance → is_near cores (Some distance) ≡ false
far_below distance cores few = grind (arith, nat_tests)
