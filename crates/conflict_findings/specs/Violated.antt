-- What the entries say: whether an attempt has been violated.
use Rattle.std.specs.Prelude.{◌≡◌, ℕ, zero, suc, ◌==◌, Bool, true, false, List, Option, Some, if◌then◌else◌}
use Rattle.spec_history.specs.declared.entry.Entry.{Entry}
use Rattle.spec_history.specs.declared.entry.What.{What}
use Rattle.spec_history.specs.declared.entry.What.TheVariants.{Hurt}
use Rattle.spec_history.specs.FlatState.{CoreState}
use Rattle.spec_history.specs.Conflict.{entry_is}
use Rattle.conflicts.specs.Attempts.{core_does, is_begin}

abbrev pub hurts : ℕ → What → Bool
hurts epoch (Hurt e) = epoch == e
hurts epoch what = false

-- the entry violates this epoch
abbrev pub is_violation : ℕ → Entry → Bool
is_violation epoch entry = hurts epoch entry.what

-- going back from a place, a violation of the epoch comes before a beginning of the core
unfoldable pub is_violated : List Entry → ℕ → ℕ → ℕ → Bool
is_violated entries core epoch zero = false
is_violated entries core epoch (suc place) =
    if core_does entries core place is_begin then false
    else if entry_is entries place (is_violation epoch) then true
    else is_violated entries core epoch place

-- the entries before a place say of each core that runs whether its attempt has been violated
abbrev pub AreMarked : List Entry → ℕ → (ℕ → Option CoreState) → Type 0
AreMarked entries place cores = (k : ℕ) (c : CoreState) → cores k ≡ Some c → c.hurt ≡ is_violated entries k c.epoch place
