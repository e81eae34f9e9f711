-- Which fault a halted run has, and the printed names of faults.
use Rattle.std.specs.Prelude.{ℕ, List, codes, Option, Some, None}
use Rattle.homefree.specs.declared.answer.StopCause.{StopCause}
use Rattle.homefree.specs.declared.answer.StopCause.TheVariants as stop
use Rattle.core_threads.specs.declared.fault.RunFault.{RunFault}
use Rattle.core_threads.specs.declared.fault.RunFault.TheVariants.{HistoryFull, NoMemory, NoThread, Spent, Shut}

abbrev pub name_of : RunFault → List ℕ
name_of HistoryFull = codes "HistoryFull"
name_of NoMemory = codes "NoMemory"
name_of NoThread = codes "NoThread"
name_of Spent = codes "Spent"
name_of Shut = codes "Shut"

-- the cause for which the book was stopped; a book that wasn't stopped could not be reached any more
abbrev pub fault_of : Option StopCause → RunFault
fault_of (Some stop.HistoryFull) = HistoryFull
fault_of (Some stop.NoMemory) = NoMemory
fault_of (Some stop.NoThread) = NoThread
fault_of (Some stop.Shut) = Shut
fault_of None = Spent
