-- How many entries the history of a book may have.
-- Source: this project.
use Rattle.std.specs.Prelude.{ℕ}

-- the most for which a book has room: 2 ^ 24
abbrev pub most_room : ℕ
most_room = 16777216
