-- Committed memory as it is copied.
use Rattle.std.proofs.Common.{◌≡◌, ℕ, ◌<◌, List, sym, ◌∙◌}
use Rattle.std.proofs.lemmas.List.{ext_get_or}
use Rattle.rv32_image.specs.Image.{LoadedImage}
use Rattle.spec_history.specs.Laws.{Holds}
use Rattle.violations.specs.View.{StoreView, IsCommitted}

-- committed memory is known byte for byte, so the copy is that memory
pub committed_is_memory : (v : StoreView) (image : LoadedImage) (f : ℕ → ℕ) (bytes memory : List ℕ) → IsCommitted v bytes → v.shape.size ≡ image.size
    → ((a : ℕ) → v.committed a ≡ f a) → Holds image f memory → bytes ≡ memory
committed_is_memory v image f bytes memory so size same holds =
    ext_get_or 0 bytes memory (so.long ∙ (size ∙ sym holds.long))
    (λ i below. let lt : i < v.shape.size = rw (← so.long) below in so.byte i lt ∙ (same i ∙ holds.bytes i))
