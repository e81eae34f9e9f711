-- The pieces of memory by which loads wait.
-- Source: this project.
use Rattle.std.specs.Prelude.{ℕ, ◌/◌, ◌≤◌}
use Rattle.rv32_image.specs.Machine.{IsMachineFor}
use Rattle.rv32_image.specs.Places.{place}
use Rattle.even_speed.specs.declared.grain.Grain.{Grain}
use Rattle.even_speed.specs.declared.grain.Grain.TheVariants.{Bytes, Lines}

-- the piece in which the byte at an address lies: lines are lines of places
abbrev pub piece_by : Grain → ℕ → ℕ
piece_by Bytes a = a
piece_by (Lines machine size) a = place machine size a / machine.line_length

-- there is such a machine, with a memory no larger than that of an image
abbrev pub HasPieces : Grain → Type 0
HasPieces Bytes = Unit {0}
HasPieces (Lines machine size) = IsMachineFor size machine × (size ≤ 1048576)
