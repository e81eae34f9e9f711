-- A core that hands in its next event.
use Rattle.std.specs.Prelude.{◌≡◌, ℕ, false, Some}
use Rattle.rv32_exec.specs.declared.stop.Stop.{Stop}
use Rattle.rv32_exec.specs.Arrival.{Arrival}
use Rattle.rv32_exec.specs.NextEvent.{next_event}
use Rattle.homefree.specs.declared.register.Register.{Register}
use Rattle.homefree.specs.declared.register.Running.{Running}
use Rattle.homefree.specs.Kept.{running_at}

-- the core runs, isn't hurt, and hands in its next event, which is this stop
pub record IsAtStop (r : Register) (core : ℕ) (now : Running) (arrived : Arrival) (at : Stop) : Type 0 where
  pub runs : running_at r.running.items core ≡ Some now
  pub unhurt : now.hurt ≡ false
  pub base : arrived.base ≡ now.hart
  pub hart : arrived.now ≡ (next_event r.image arrived.base).now
  pub event : arrived.at ≡ (next_event r.image arrived.base).at
  pub is : arrived.at ≡ at
