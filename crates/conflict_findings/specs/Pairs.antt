-- The pairs of instructions at which violations met, each once.
use Rattle.std.specs.Prelude.{List, [], ◌∷◌, ◌++◌, Option, Some, None, if◌then◌else◌}
use Rattle.std.specs.List.{fold, list_any}
use Rattle.conflict_findings.specs.declared.rollback.Pair.{Pair}
use Rattle.conflict_findings.specs.declared.rollback.Rollback.{Rollback}
use Rattle.conflict_findings.specs.Parts.{is_pair}

-- a pair at the end, unless it is there
abbrev pub noted : List Pair → Option Pair → List Pair
noted pairs None = pairs
noted pairs (Some pair) = if list_any (is_pair pair) pairs then pairs else pairs ++ pair ∷ []

abbrev pub pairs_in : List Rollback → List Pair
pairs_in rollbacks = fold (λ pairs (r : Rollback). noted pairs r.pair) [] rollbacks
