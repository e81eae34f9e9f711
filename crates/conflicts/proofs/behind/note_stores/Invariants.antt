use Rattle.std.proofs.Common.{◌≡◌, ◌<◌, ◌≤◌, ℕ}
use Rattle.std.specs.BTreeMap.{get}
use Rattle.std.specs.Ordering.{nat_cmp}
use Rattle.conflicts.specs.Behind.{is_within, kept_last}
use Rattle.conflicts.proofs.behind.note_stores.Given as goal

-- those so far are noted
abbrev pub invariant-loop-addr : goal.invariant-loop-addr
invariant-loop-addr l = record {
  noted : (a : ℕ) → get nat_cmp l.stores a ≡ kept_last (is_within l.first l.addr a) (get nat_cmp l.initial.stores a) l.place;
  empty : l.end < l.first → l.addr ≤ l.first;
}
