-- What the register has of where a turn is taken.
use Rattle.std.specs.Prelude.{ℕ, length, Option}
use Rattle.rv32_exec.specs.Arrival.{Arrival}
use Rattle.violations.specs.View.{Waits}
use Rattle.homefree.specs.declared.register.Register.{Register}
use Rattle.homefree.specs.Kept.{running_at}
use Rattle.homefree.specs.Moves.{Standing}

abbrev pub standing : Register → Waits → ℕ → Option Arrival → Standing
standing r waits core next =
    record {
      image = r.image;
      count = length r.running.items;
      waits = waits;
      homefree = r.homefree;
      next_epoch = r.next_epoch;
      core = core;
      running = running_at r.running.items core;
      next = next;
    }
