use Rattle.std.proofs.Common.{◌≡◌, ◌<◌, ◌≤◌, ◌&&◌, ℕ, is_none}
use Rattle.std.specs.BTreeMap.{get}
use Rattle.std.specs.Ordering.{nat_cmp}
use Rattle.conflicts.specs.Behind.{is_within, kept_first}
use Rattle.conflicts.proofs.behind.note_reads.Given as goal

-- those so far are noted
abbrev pub invariant-loop-addr : goal.invariant-loop-addr
invariant-loop-addr l = record {
  noted : (a : ℕ) → get nat_cmp l.reads a ≡ kept_first (is_within l.first l.addr a && is_none (get nat_cmp l.stores a)) (get nat_cmp l.initial.reads a) l.place;
  empty : l.end < l.first → l.addr ≤ l.first;
}
