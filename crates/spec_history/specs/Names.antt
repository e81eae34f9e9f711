-- The printed names of refusals.
use Rattle.std.specs.Prelude.{ℕ, List, codes}
use Rattle.spec_history.specs.declared.illegal.Illegal.{Illegal}
use Rattle.spec_history.specs.declared.illegal.Illegal.TheVariants.{NotThere, NotNext, WrongValue, NotHomefree, HurtMissing, Over, NoMemory, NotCancelled}

abbrev pub name_of : Illegal → List ℕ
name_of NotThere = codes "NotThere"
name_of NotNext = codes "NotNext"
name_of WrongValue = codes "WrongValue"
name_of NotHomefree = codes "NotHomefree"
name_of HurtMissing = codes "HurtMissing"
name_of Over = codes "Over"
name_of NoMemory = codes "NoMemory"
name_of NotCancelled = codes "NotCancelled"
