-- How schedules grow by a turn.
use Rattle.std.specs.Prelude.{ℕ, zero, suc, List, [], ◌∷◌, ◌++◌}
use Rattle.std.specs.List.{flat_map}

-- this schedule with one turn more, of each core below a number
unfoldable pub going_on : List ℕ → ℕ → List (List ℕ)
going_on schedule zero = []
going_on schedule (suc core) = going_on schedule core ++ (schedule ++ core ∷ []) ∷ []

-- each of these with one turn more
abbrev pub longer : ℕ → List (List ℕ) → List (List ℕ)
longer cores schedules = flat_map (λ schedule. going_on schedule cores) schedules
