use Rattle.std.proofs.Common.{◌≡◌, ◌<◌, ℕ, All, drop}
use Rattle.even_speed.specs.Seats.{seat_at, seats_after}
use Rattle.even_speed.proofs.seats.note_all.Given as goal

-- the entries that are left lead to what all lead to
abbrev pub invariant-loop-entry : goal.invariant-loop-entry
invariant-loop-entry l = record {
  by : All (λ e. e.by < 16) (drop l.entry-index l.entries);
  rest : (k : ℕ) → seats_after (seat_at l.seats) (drop l.entry-index l.entries) k ≡ seats_after (seat_at l.initial.seats) l.entries k;
}
