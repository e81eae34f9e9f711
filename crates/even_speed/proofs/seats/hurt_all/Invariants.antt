use Rattle.std.proofs.Common.{◌≡◌, ℕ, ◌<◌, ◌≤◌}
use Rattle.even_speed.specs.Seats.{hurt_seat, seat_at}
use Rattle.even_speed.proofs.seats.hurt_all.Given as goal

abbrev pub invariant-loop-core : goal.invariant-loop-core
invariant-loop-core l = record {
  changed : (k : ℕ) → k < l.core → seat_at l.seats k ≡ hurt_seat l.epoch (seat_at l.initial.seats k);
  same : (k : ℕ) → l.core ≤ k → seat_at l.seats k ≡ seat_at l.initial.seats k;
}
