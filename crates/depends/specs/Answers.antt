-- What was written of what a loop can roll back through.
-- Source: this project.
use Rattle.std.specs.Prelude.{◌≡◌, ◌⊎◌, ℕ, List, Option, MatchResult}
use Rattle.std.specs.Io.KnownBytes.{Appends, Keeps}
use Rattle.rv32_image.specs.Image.{LoadedImage}
use Rattle.rv32_image.specs.ImageText.{image_text}
use Rattle.trace_commands.specs.declared.outcome.Outcome.{Outcome}
use Rattle.trace_commands.specs.declared.outcome.Outcome.TheVariants.{Usage, BadImage, Stopped}
use Rattle.trace_commands.specs.declared.outcome.CommandStop.TheVariants.{Write, NoMemory}
use Rattle.trace_commands.specs.Outcome.{AppendsPrefix, Conclusion, IsRefusal}
use Rattle.trace_commands.specs.Program.{Stream}
use Rattle.depends.specs.Lines.{AreLines}
use Rattle.replay_command.specs.Stores.{HasRefused, RunsOnAll}

-- ---- of an image

-- it was written: each store's machine can run the image on so many cores
abbrev pub IsWrittenOf : LoadedImage → ℕ → List (List ℕ) → ℕ → Option (List ℕ) → Option (List ℕ) → Type 0
IsWrittenOf image cores stores room old new =
    RunsOnAll image cores stores × (text : List ℕ) × AreLines image cores room stores text × Appends old new text

-- it wasn't: a machine or the number of cores is refused, memory ran out or a write failed
abbrev pub IsUnwrittenOf : LoadedImage → ℕ → List (List ℕ) → ℕ → Option (List ℕ) → Option (List ℕ) → Outcome → Type 0
IsUnwrittenOf image cores stores room old new Usage = HasRefused image cores stores × Keeps old new
IsUnwrittenOf image cores stores room old new (Stopped Write) =
    RunsOnAll image cores stores × (text : List ℕ) × AreLines image cores room stores text × AppendsPrefix old new text
IsUnwrittenOf image cores stores room old new (Stopped NoMemory) = Keeps old new
IsUnwrittenOf image cores stores room old new outcome = ⊥

-- ---- of a text

abbrev pub IsWritten : ℕ → List (List ℕ) → ℕ → List ℕ → Option (List ℕ) → Option (List ℕ) → Type 0
IsWritten cores stores room text old new = MatchResult (image_text text) (λ image. IsWrittenOf image cores stores room old new) (λ fault. ⊥)

abbrev pub IsUnwritten : ℕ → List (List ℕ) → ℕ → List ℕ → Option (List ℕ) → Option (List ℕ) → Outcome → Type 0
IsUnwritten cores stores room text old new (BadImage fault) = IsRefusal fault.kind fault (image_text text) × Keeps old new
IsUnwritten cores stores room text old new (Stopped NoMemory) = Keeps old new
IsUnwritten cores stores room text old new outcome = MatchResult (image_text text) (λ image. IsUnwrittenOf image cores stores room old new outcome) (λ fault. ⊥)

-- it was written, and the status is 0; or the program concludes with what kept it from being written
abbrev pub DependsAnswers : ℕ → List (List ℕ) → ℕ → List ℕ → Stream → Stream → ℕ → Type 0
DependsAnswers cores stores room text output errors status =
    ((status ≡ 0) × IsWritten cores stores room text output.old output.new × Keeps errors.old errors.new)
    ⊎ Conclusion (IsUnwritten cores stores room text output.old output.new) errors.old errors.new status
