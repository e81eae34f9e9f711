-- How an input is read.
use Rattle.std.specs.Prelude.{ℕ, ◌≤◌, List, length, codes, Option}
use Rattle.std.specs.Io.KnownBytes.{Consumes}
use Rattle.rv32_image.specs.declared.input.InputFault.{InputFault}
use Rattle.rv32_image.specs.declared.input.InputFault.TheVariants.{TooLong, Read, NoMemory}

abbrev pub name_of : InputFault → List ℕ
name_of TooLong = codes "TooLong"
name_of Read = codes "Read"
name_of NoMemory = codes "NoMemory"

-- of the bytes that a reader had, no more than so many were taken, from the front
abbrev pub TakesAtMost : Option (List ℕ) → Option (List ℕ) → ℕ → Type 0
TakesAtMost old new most = (taken : List ℕ) × Consumes old new taken × (length taken ≤ most)
