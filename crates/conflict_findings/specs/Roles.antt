-- Violations in which an instruction of a pair stands as the load, whichever it was.
use Rattle.std.specs.Prelude.{List, ◌++◌, map, option_map}
use Rattle.conflict_findings.specs.declared.rollback.Pair.{Pair}
use Rattle.conflict_findings.specs.declared.rollback.Rollback.{Rollback}

-- the two instructions in each other's role
abbrev pub swapped : Rollback → Rollback
swapped r = record r { pair = option_map (λ (p : Pair). record { store = p.load; load = p.store }) r.pair }

-- the violations, and the same with their instructions in each other's role: the loads are now all instructions of pairs
abbrev pub in_both_roles : List Rollback → List Rollback
in_both_roles rollbacks = rollbacks ++ map swapped rollbacks
