-- The printed names of faults.
use Rattle.std.specs.Prelude.{ℕ, List, codes}
use Rattle.homefree.specs.declared.fault.TurnFault.{TurnFault}
use Rattle.homefree.specs.declared.fault.TurnFault.TheVariants.{HistoryFull, NoMemory}

abbrev pub name_of : TurnFault → List ℕ
name_of HistoryFull = codes "HistoryFull"
name_of NoMemory = codes "NoMemory"
