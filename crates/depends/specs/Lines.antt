-- All lines.
-- Source: this project.
use Rattle.std.specs.Prelude.{◌≡◌, ℕ, ◌++◌, List, [], ◌∷◌, Option, Some, None}
use Rattle.std.specs.List.{flat_map}
use Rattle.rv32_image.specs.Image.{LoadedImage}
use Rattle.spec_bus.specs.Cached as caches
use Rattle.spec_bus.specs.Laws as cache
use Rattle.dependences.specs.declared.flow.Dependence.{Dependence}
use Rattle.dependences.specs.declared.pairs.PairSum.{PairSum}
use Rattle.dependences.specs.Flow.{AreDependences}
use Rattle.dependences.specs.Lengths.{AreLengths}
use Rattle.trace_commands.specs.declared.store.Store.{Store}
use Rattle.trace_commands.specs.declared.store.Store.TheVariants.{Caches, Plain}
use Rattle.trace_commands.specs.Stores.{store_named}
use Rattle.depends.specs.declared.least.Grain.TheVariants.{Lines}
use Rattle.depends.specs.declared.line.Line.{Line}
use Rattle.depends.specs.Line.{IsLine, line_text}
use Rattle.depends.specs.Plain.{IsPlainLine}
use Rattle.depends.specs.Rows.{AreRowsOf}
use Rattle.replay_command.specs.Stores.{on_store}
use Rattle.depends.specs.Text.{row_text}

-- a line for each pair of instructions that some of these dependences join, heaviest first
pub record AreRowLines (found : List Dependence) (lengths : List ℕ) (text : List ℕ) : Type 0 where
  pub rows : List ((ℕ × ℕ) × PairSum)
  pub are : AreRowsOf found rows
  pub says : text ≡ flat_map (row_text lengths) rows

-- what is so of a store, of the loop on its machine
abbrev pub IsLineOf : LoadedImage → Store → ℕ → ℕ → Line → Type 0
IsLineOf image (Caches asked) cores room line = IsLine cache.Starts cache.Makes caches.store_view caches.waits image Lines cores room line
IsLineOf image Plain cores room line = IsPlainLine image cores room line

-- it is told of the store that this word names
abbrev pub AddStore : LoadedImage → ℕ → ℕ → List ℕ → Option Store → List ℕ → List ℕ → Type 0
AddStore image cores room word (Some store) old new =
    (line : Line) × IsLineOf (on_store store image) store cores room line × (new ≡ old ++ line_text word cores line)
AddStore image cores room word None old new = ⊥

-- and of each of these, one after another
abbrev pub AddStores : LoadedImage → ℕ → ℕ → List (List ℕ) → List ℕ → List ℕ → Type 0
AddStores image cores room [] old new = new ≡ old
AddStores image cores room (word ∷ words) old new =
    (mid : List ℕ) × AddStore image cores room word (store_named word) old mid × AddStores image cores room words mid new

-- the dependences of the run in order, and then what is so of each store
pub record AreLines (image : LoadedImage) (cores room : ℕ) (stores : List (List ℕ)) (text : List ℕ) : Type 0 where
  pub found : List Dependence
  pub dependences : AreDependences image found
  pub lengths : List ℕ
  pub lasts : AreLengths image lengths
  pub rows : List ℕ
  pub rows_are : AreRowLines found lengths rows
  pub told : AddStores image cores room stores rows text
