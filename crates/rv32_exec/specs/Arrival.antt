-- Where `advance` stops.
use Rattle.std.specs.Prelude.{ℕ, ◌<◌, ◌^◌}
use Rattle.rv32_exec.specs.declared.stop.Stop.{Stop}
use Rattle.rv32_exec.specs.declared.stop.Stop.TheVariants.{Load, Store, Ended, Fault}
use Rattle.rv32_exec.specs.Hart.{HartState}
use Rattle.rv32_exec.specs.Execute.{after_load}
use Rattle.memory_bytes.specs.Bytes.{IsWidth}

-- the hart that was handed in, the hart at the stop, and the stop
pub record Arrival : Type 0 where
  pub base : HartState
  pub now : HartState
  pub at : Stop

-- the access has a width, and the hart has room to count it
abbrev pub HasRoom : HartState → Stop → Type 0
HasRoom h (Load address width signed rd) = IsWidth width × (h.done < 1000000)
HasRoom h (Store address width value) = IsWidth width × (h.done < 1000000)
HasRoom h Ended = Unit {0}
HasRoom h (Fault cause pc) = Unit {0}

-- it is a load, and the number is of its width
abbrev pub IsAtLoad : Stop → ℕ → Type 0
IsAtLoad (Load address width signed rd) number = number < 256 ^ width
IsAtLoad (Store address width value) number = ⊥
IsAtLoad Ended number = ⊥
IsAtLoad (Fault cause pc) number = ⊥

-- it is a store
abbrev pub IsAtStore : Stop → Type 0
IsAtStore (Load address width signed rd) = ⊥
IsAtStore (Store address width value) = Unit {0}
IsAtStore Ended = ⊥
IsAtStore (Fault cause pc) = ⊥

-- the hart after the load of this number; a hart at another stop stays
abbrev pub after_number : HartState → Stop → ℕ → HartState
after_number h (Load address width signed rd) number = after_load h width signed rd number
after_number h (Store address width value) number = h
after_number h Ended number = h
after_number h (Fault cause pc) number = h

abbrev pub after_loading : Arrival → ℕ → HartState
after_loading a number = after_number a.now a.at number
