-- That no schedule violates an epoch over the caches on a bus.
-- Source: this project.
use Rattle.std.specs.Prelude.{◌≡◌, ℕ}
use Rattle.rv32_image.specs.Image.{LoadedImage}
use Rattle.spec_bus.specs.Cached.{CachedView, store_view, waits}
use Rattle.spec_bus.specs.Laws.{Makes, Starts}
use Rattle.homefree.specs.BookView.{BookView}
use Rattle.homefree.specs.InStep.{InStep}
use Rattle.homefree.specs.Retraced.{IsRetraced}
use Rattle.dependences.specs.Laws.{NoneIsHurt}

-- no book over the caches on a bus has a violation, whatever turns led to it, on one thread or on many
abbrev pub NeverOverBus : LoadedImage → ℕ → Type 0
NeverOverBus image cores =
    (b : BookView CachedView) → b.image ≡ image → b.cores ≡ cores → InStep store_view b → IsRetraced Starts Makes store_view waits b → NoneIsHurt b.history
