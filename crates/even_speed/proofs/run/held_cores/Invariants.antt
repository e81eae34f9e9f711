use Rattle.std.proofs.Common.{◌≡◌, ℕ, ◌<◌, length}
use Rattle.homefree.specs.Held.{harts_of}
use Rattle.even_speed.specs.Held.{held_in}
use Rattle.even_speed.specs.Holds.{holding_of}
use Rattle.even_speed.specs.Kept.{is_held_in}
use Rattle.even_speed.proofs.run.held_cores.Given as goal

abbrev pub invariant-loop-core : goal.invariant-loop-core
invariant-loop-core g l = record {
  long : length l.waiting ≡ 16;
  are : (k : ℕ) → k < l.core → is_held_in l.waiting k ≡ held_in (holding_of l.holds) l.book (harts_of l.held) k;
}
