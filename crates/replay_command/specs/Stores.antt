-- What stores ask for: whether their machines can run an image, and the pieces of memory that tell which loads wait over them.
-- Source: this project.
use Rattle.std.specs.Prelude.{◌⊎◌, ℕ, List, [], ◌∷◌, Option, Some, None}
use Rattle.rv32_image.specs.Image.{LoadedImage}
use Rattle.trace_commands.specs.declared.outcome.Outcome.{Outcome}
use Rattle.trace_commands.specs.declared.outcome.Outcome.TheVariants.{Usage, Stopped}
use Rattle.trace_commands.specs.declared.outcome.CommandStop.TheVariants.{NoMemory}
use Rattle.trace_commands.specs.declared.store.Store.{Store}
use Rattle.trace_commands.specs.declared.store.Store.TheVariants.{Caches, Plain}
use Rattle.epoch_paths.specs.declared.pieces.Pieces.{Pieces}
use Rattle.epoch_paths.specs.declared.pieces.Pieces.TheVariants.{Bytes, Lines}
use Rattle.trace_commands.specs.Stores.{asked_by, on_machine, store_named}
use Rattle.run_command.specs.Runnable.{IsRunnable}

-- the loop on the machine that a store asks for
abbrev pub on_store : Store → LoadedImage → LoadedImage
on_store store image = on_machine (asked_by store) image

-- that machine can run the image on so many cores
abbrev pub RunsOn : LoadedImage → ℕ → Option Store → Type 0
RunsOn image cores (Some store) = IsRunnable (on_store store image) cores
RunsOn image cores None = ⊥

-- so of each of the stores that these words name
abbrev pub RunsOnAll : LoadedImage → ℕ → List (List ℕ) → Type 0
RunsOnAll image cores [] = Unit {0}
RunsOnAll image cores (word ∷ words) = RunsOn image cores (store_named word) × RunsOnAll image cores words

-- it can't
abbrev pub IsRefused : LoadedImage → ℕ → Option Store → Type 0
IsRefused image cores (Some store) = IsRunnable (on_store store image) cores → ⊥
IsRefused image cores None = ⊥

-- so of one of the stores that these words name
abbrev pub HasRefused : LoadedImage → ℕ → List (List ℕ) → Type 0
HasRefused image cores [] = ⊥
HasRefused image cores (word ∷ words) = IsRefused image cores (store_named word) ⊎ HasRefused image cores words

-- that was refused, or memory ran out
abbrev pub IsStop : Type 0 → Outcome → Type 0
IsStop refused Usage = refused
IsStop refused (Stopped NoMemory) = Unit {0}
IsStop refused outcome = ⊥

-- ---- loads that wait

-- the pieces that tell over a store whether a load reads what another epoch stores
abbrev pub pieces_of : Store → Pieces
pieces_of (Caches asked) = Lines
pieces_of Plain = Bytes
