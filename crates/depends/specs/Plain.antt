-- What is told of the plain store: a conflict is shown, unless a history is full.
-- Source: this project; the law is that of `never_or_shown`.
use Rattle.std.specs.Prelude.{◌≡◌, ℕ, ◌+◌, ◌<◌, List, length, Option, Some, Ok}
use Rattle.rv32_image.specs.Image.{LoadedImage}
use Rattle.rv32_image.specs.Version.{limits_of}
use Rattle.rv32_exec.specs.declared.sequential.End.{End}
use Rattle.spec_history.specs.declared.entry.Entry.{Entry}
use Rattle.violations.specs.View.{never_waits}
use Rattle.violations.specs.Plain as plain
use Rattle.all_schedules.specs.Made.{Makes, loop_on}
use Rattle.depends.specs.declared.least.Found.{Found}
use Rattle.depends.specs.declared.least.Grain.TheVariants.{Bytes}
use Rattle.depends.specs.declared.line.Line.{Line}
use Rattle.depends.specs.declared.line.Line.TheVariants.{Never, Open}
use Rattle.depends.specs.Line.{IsFrom}
use Rattle.depends.specs.Never.{IsLeast, NeverRollsBack}

-- turns make a history that has no room for a further one
pub record IsOutOfRoom (image : LoadedImage) (cores room : ℕ) : Type 0 where
  pub turns : List ℕ
  pub history : List Entry
  pub end : Option End
  pub makes : Makes plain.Starts plain.Makes plain.store_view (λ _. never_waits) (loop_on image cores room) turns (Ok end) history
  pub full : room < length history + (limits_of image.version).free_entries

-- the turns make the violation on so many cores; where there are none, a history was full
abbrev pub IsPlainFrom : LoadedImage → ℕ → ℕ → Line → Type 0
IsPlainFrom image cores room (Open n) = (n ≡ cores) × IsOutOfRoom image cores room
IsPlainFrom image cores room line = IsFrom plain.Starts plain.Makes plain.store_view (λ _. never_waits) image cores room line

-- no schedule has a violation; or so many cores are the fewest on which epochs conflict, and that is shown
abbrev pub IsPlainLine : LoadedImage → ℕ → ℕ → Line → Type 0
IsPlainLine image most room Never = NeverRollsBack image Bytes most
IsPlainLine image most room line = (least : Found) × IsLeast image Bytes most (Some least) × IsPlainFrom image least.cores room line
