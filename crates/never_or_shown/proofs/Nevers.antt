-- What is never over the bus, for a loop and so many cores.
use Rattle.std.proofs.Common.{◌≡◌, ℕ, Some, subst}
use Rattle.rv32_image.specs.Image.{LoadedImage}
use Rattle.spec_history.specs.Replay.{replay}
use Rattle.spec_history.specs.Conflict.{AreKnown}
use Rattle.homefree.proofs.Violations.Knowing.{are_known}
use Rattle.dependences.specs.Conflict.{LineConflict}
use Rattle.dependences.specs.Laws.{NeverOverLines}
use Rattle.never_or_shown.specs.NeverOverBus.{NeverOverBus}
use Rattle.dependences.specs.Shared.{SharedOverflow}
use Rattle.never_or_shown.proofs.Drives.{none_is_hurt}

-- what is of the one image and cores, is of the other
moved : (P : LoadedImage → ℕ → Type 0) (image image' : LoadedImage) (cores cores' : ℕ) → image ≡ image' → cores ≡ cores' → P image cores → P image' cores'
moved P image image' cores cores' same alike is = subst (λ (n : ℕ). P image' n) alike (subst (λ (x : LoadedImage). P x cores) same is)

pub never_shared : (image : LoadedImage) (cores : ℕ) → (LineConflict image cores → ⊥) → (SharedOverflow image cores → ⊥) → NeverOverBus image cores
never_shared image cores free room b image_is cores_is i back =
    none_is_hurt b i back (λ conflict. free (moved LineConflict b.image image b.cores cores image_is cores_is conflict))
    (λ overflow. room (moved SharedOverflow b.image image b.cores cores image_is cores_is overflow))

pub never_known : (image : LoadedImage) (cores : ℕ) → NeverOverLines image cores → NeverOverBus image cores
never_known image cores never b image_is cores_is i back =
    never b.history i.state (moved (λ x n. replay x n b.history ≡ Some i.state) b.image image b.cores cores image_is cores_is i.replays) i.starts
    (moved (λ x n. AreKnown x n b.history) b.image image b.cores cores image_is cores_is (are_known b.image b.cores b.history i.kinds))
