use Rattle.std.proofs.Common.{◌≡◌, ℕ, All, drop, length}
use Rattle.even_speed.specs.Owns.{IsNotable, own_at, owns_after}
use Rattle.even_speed.proofs.owns.keep_all.Given as goal

-- the entries that are left lead to what all lead to
abbrev pub invariant-loop-entry : goal.invariant-loop-entry
invariant-loop-entry l = record {
  len : length l.owns.items ≡ length l.initial.owns.items;
  notable : All (IsNotable (length l.owns.items)) (drop l.entry-index l.entries);
  rest : (k : ℕ) → owns_after (own_at l.owns.items) (drop l.entry-index l.entries) k ≡ owns_after (own_at l.initial.owns.items) l.entries k;
}
