-- What is left to cut.
use Rattle.std.specs.Prelude.{ℕ, List, [], Option, Some, None}
use Rattle.std.specs.Borrow.{Bor}
use Rattle.rv32_image.specs.ImageText.{pieces}

-- the pieces of what follows a separator
abbrev pub pieces_after : ℕ → Option (Bor (List ℕ)) → List (List ℕ)
pieces_after separator None = []
pieces_after separator (Some rest) = pieces separator rest.now
