-- Sets of cores.
use Rattle.std.specs.Prelude.{ℕ, zero, suc, ◌+◌, Bool, false, slice_index_or, if◌then◌else◌}
use Rattle.violations.specs.declared.core_set.CoreSet.{CoreSet}

abbrev pub is_in : CoreSet → ℕ → Bool
is_in set core = slice_index_or set.members core false

-- how many of the cores below n are in the set
unfoldable pub members_below : CoreSet → ℕ → ℕ
members_below set zero = 0
members_below set (suc n) = if is_in set n then members_below set n + 1 else members_below set n
