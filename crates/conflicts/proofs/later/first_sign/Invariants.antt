use Rattle.std.proofs.Common.{◌≤◌, ℕ, List}
use Rattle.spec_history.specs.declared.entry.Entry.{Entry}
use Rattle.spec_history.specs.View.{state_in}
use Rattle.conflicts.specs.Ahead.{AreAhead}
use Rattle.conflicts.specs.Later.{was_read}
use Rattle.conflicts.proofs.Signs.{IsSoonest}
use Rattle.conflicts.proofs.later.first_sign.Given as goal

-- the first sign so far
abbrev pub invariant-loop-addr : goal.invariant-loop-addr
invariant-loop-addr l = record {
  most : l.first ≤ l.stores.end;
  soonest : (entries : List Entry) (core : ℕ) → AreAhead l.flat.image.size entries core l.stores → l.stores.after ≤ l.after
      → IsSoonest l.flat.image.size entries core (was_read (state_in l.flat) l.victim) l.addr-items l.after l.stores.end l.addr-index l.first;
}
