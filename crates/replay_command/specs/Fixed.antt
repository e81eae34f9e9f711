-- That the text of what a schedule's turns do is fixed.
-- Source: this project.
use Rattle.std.specs.Prelude.{◌≡◌, ℕ, List}
use Rattle.rv32_image.specs.Image.{LoadedImage}
use Rattle.spec_history.specs.declared.entry.Entry.{Entry}
use Rattle.violations.specs.View.{StoreView, Waits}
use Rattle.violations.specs.Calls.{Call}
use Rattle.homefree.specs.declared.book.Loop.{Loop}
use Rattle.replay_command.specs.Told.{Tells}

-- the turns of a schedule make the same history each time, and the text of each of them is one, with all that the turn changed of the store
abbrev pub TextIsFixed : {S : Type 0} → (LoadedImage → ℕ → S → Type 0) → (S → Call → S → Type 0) → (S → StoreView) → (S → Waits) → (ℕ → S → S → List ℕ) → Type 0
TextIsFixed starts makes view waits changes =
    (l : Loop) (schedule : List ℕ) (history history' : List Entry) (text text' : List ℕ) → Tells starts makes view waits changes l schedule history text
    → Tells starts makes view waits changes l schedule history' text' → (history' ≡ history) × (text' ≡ text)
